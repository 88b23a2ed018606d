-- When files are well.
use Rattle.std.specs.Prelude.{◌==◌, ◌&&◌, not, nat_lt, Bool}
use Rattle.liquid_check.specs.declared.print.Counts.{Counts}

-- no fault, each can be read, and no warning where these count
abbrev pub are_well : Bool → Counts → Bool
are_well is_strict c = (c.faults == 0) && ((c.unreadable == 0)
    && not (is_strict && nat_lt 0 c.warnings))

use Rattle.std.proofs.Common.{◌≡◌, true, drop}
use Rattle.liquid_records.specs.inside.Dots.{ends_well}
use Rattle.liquid_records.proofs.file_name.ends_well.Given as goal

-- what is left ends well exactly where the whole does
abbrev pub invariant-loop-byte : goal.invariant-loop-byte
invariant-loop-byte l = ends_well l.only_dots (drop l.byte-index l.name) ≡ ends_well true l.name

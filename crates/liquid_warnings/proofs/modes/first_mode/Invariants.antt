use Rattle.std.proofs.Common.{◌≡◌, drop}
use Rattle.liquid_warnings.specs.Modes.{first_mode}
use Rattle.liquid_warnings.proofs.modes.first_mode.Given as goal

-- the filters that are left decide as all of them do
abbrev pub invariant-loop-filter : goal.invariant-loop-filter
invariant-loop-filter l = first_mode l.filters ≡ first_mode (drop l.filter-index l.filters)

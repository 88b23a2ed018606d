use Rattle.std.proofs.Common.{◌≡◌, drop}
use Rattle.liquid_warnings.specs.Slips.{filters_slip}
use Rattle.liquid_warnings.proofs.slips.filters_slip.Given as goal

-- the filters that are left decide as all of them do
abbrev pub invariant-loop-filter : goal.invariant-loop-filter
invariant-loop-filter l = filters_slip l.filters ≡ filters_slip (drop l.filter-index l.filters)

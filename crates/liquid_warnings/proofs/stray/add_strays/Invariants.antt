use Rattle.std.proofs.Common.{All}
use Rattle.liquid_warnings.specs.Sorts.{IsStray}
use Rattle.liquid_warnings.specs.inside.Added.{AddsRemarks}
use Rattle.liquid_warnings.proofs.stray.add_strays.Given as goal

-- all that is added so far is of this sort
abbrev pub invariant-loop-stray : goal.invariant-loop-stray
invariant-loop-stray l = AddsRemarks (All IsStray) l.fn.remarks.items l.remarks.items

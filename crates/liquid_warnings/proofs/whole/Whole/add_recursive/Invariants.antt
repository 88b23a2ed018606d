use Rattle.std.proofs.Common.{All}
use Rattle.liquid_warnings.specs.Sorts.{IsRecursive}
use Rattle.liquid_warnings.specs.inside.Added.{AddsRemarks}
use Rattle.liquid_warnings.proofs.whole.Whole.add_recursive.Given as goal

-- all that is added so far is of this sort
abbrev pub invariant-loop-number : goal.invariant-loop-number
invariant-loop-number l = AddsRemarks (All IsRecursive) l.fn.remarks.items l.remarks.items

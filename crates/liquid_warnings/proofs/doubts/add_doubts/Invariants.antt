use Rattle.std.proofs.Common.{All}
use Rattle.liquid_warnings.specs.Sorts.{IsDoubt}
use Rattle.liquid_warnings.specs.inside.Added.{AddsRemarks}
use Rattle.liquid_warnings.proofs.doubts.add_doubts.Given as goal

-- all that is added so far is of this sort
abbrev pub invariant-loop-asked : goal.invariant-loop-asked
invariant-loop-asked l = AddsRemarks (All IsDoubt) l.fn.remarks.items l.remarks.items

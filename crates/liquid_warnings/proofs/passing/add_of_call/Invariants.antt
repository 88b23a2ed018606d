use Rattle.std.proofs.Common.{All}
use Rattle.liquid_warnings.specs.Sorts.{IsUnusedPair}
use Rattle.liquid_warnings.specs.inside.Added.{AddsRemarks}
use Rattle.liquid_warnings.proofs.passing.add_of_call.Given as goal

-- all that is added so far is of this sort
abbrev pub invariant-loop-pair : goal.invariant-loop-pair
invariant-loop-pair l = AddsRemarks (All IsUnusedPair) l.fn.remarks.items l.remarks.items

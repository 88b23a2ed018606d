use Rattle.std.proofs.Common.{All}
use Rattle.liquid_warnings.specs.Sorts.{IsNotGiven}
use Rattle.liquid_warnings.specs.inside.Added.{AddsRemarks}
use Rattle.liquid_warnings.proofs.passing.add_not_given.Given as goal

-- all that is added so far is of this sort
abbrev pub invariant-loop-name : goal.invariant-loop-name
invariant-loop-name l = AddsRemarks (All IsNotGiven) l.fn.remarks.items l.remarks.items

use Rattle.std.proofs.Common.{All}
use Rattle.liquid_warnings.specs.Sorts.{IsForeign}
use Rattle.liquid_warnings.specs.inside.Added.{AddsRemarks}
use Rattle.liquid_warnings.proofs.foreign.add_all.Given as goal

-- all that is added so far is of this sort
abbrev pub invariant-loop-placeholder : goal.invariant-loop-placeholder
invariant-loop-placeholder l = AddsRemarks (All IsForeign) l.fn.remarks.items l.remarks.items

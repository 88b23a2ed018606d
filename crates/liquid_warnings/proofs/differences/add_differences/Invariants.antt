use Rattle.std.proofs.Common.{All}
use Rattle.liquid_warnings.specs.Differences.{IsOfRuby}
use Rattle.liquid_warnings.specs.inside.Added.{AddsRemarks}
use Rattle.liquid_warnings.proofs.differences.add_differences.Given as goal

-- all that is added so far is of this sort
abbrev pub invariant-loop-asked : goal.invariant-loop-asked
invariant-loop-asked l = AddsRemarks (All IsOfRuby) l.fn.remarks.items l.remarks.items

use Rattle.std.proofs.Common.{All}
use Rattle.liquid_warnings.specs.Sorts.{IsEscapedTwice}
use Rattle.liquid_warnings.specs.inside.Added.{AddsRemarks}
use Rattle.liquid_warnings.proofs.escaped_twice.add_escaped_twice.Given as goal

-- all that is added so far is of this sort
abbrev pub invariant-loop-name : goal.invariant-loop-name
invariant-loop-name l = AddsRemarks (All IsEscapedTwice) l.fn.remarks.items l.remarks.items

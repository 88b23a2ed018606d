use Rattle.std.proofs.Common.{All}
use Rattle.liquid_warnings.specs.Sorts.{IsTextTest}
use Rattle.liquid_warnings.specs.inside.Added.{AddsRemarks}
use Rattle.liquid_warnings.proofs.text_tests.add_text_tests.Given as goal

-- all that is added so far is of this sort
abbrev pub invariant-loop-test : goal.invariant-loop-test
invariant-loop-test l = AddsRemarks (All IsTextTest) l.fn.remarks.items l.remarks.items

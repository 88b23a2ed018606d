use Rattle.std.proofs.Common.{All}
use Rattle.liquid_warnings.specs.Sorts.{IsQuotedName}
use Rattle.liquid_warnings.specs.inside.Added.{AddsRemarks}
use Rattle.liquid_warnings.proofs.text_tests.add_quoted_names.Given as goal

-- all that is added so far is of this sort
abbrev pub invariant-loop-name : goal.invariant-loop-name
invariant-loop-name l = AddsRemarks (All IsQuotedName) l.fn.remarks.items l.remarks.items

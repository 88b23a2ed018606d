use Rattle.std.proofs.Common.{sym, ap, ◌∙◌}
use Rattle.liquid_syntax.specs.inside.Calls.{own_calls}
use Rattle.liquid_syntax.proofs.OwnCases.{no_case_calls}
use Rattle.liquid_syntax.proofs.calls.partial_call.Goals as goal

pub returns-in-Case : goal.returns-in-Case
returns-in-Case c = sym (ap own_calls c.in-Case.is ∙ no_case_calls c.in-Case.field-0 c.in-Case.field-1 c.in-Case.field-2)

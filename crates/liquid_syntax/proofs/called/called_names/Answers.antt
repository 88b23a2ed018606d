use Rattle.std.proofs.Common.{◌||◌, ◌∙◌, ap, sym}
use mathlib.Core.Path.{fun_ext}
use Rattle.liquid_evaluation.specs.PartialCalls.{nodes_calls}
use Rattle.liquid_syntax.specs.Called.{names_called}
use Rattle.liquid_syntax.specs.Templates.{tree_of}
use Rattle.liquid_syntax.proofs.RunNames.{none_held}
use Rattle.liquid_syntax.proofs.called.called_names.Goals as goal

pub returns-else-any-clause-exact : goal.returns-else-any-clause-exact
returns-else-any-clause-exact c =
    let calls = nodes_calls (tree_of c.args.template.now) in
    let gathered = c.in_ok-add_calls.ensures in (
      sym gathered.any ∙ c.if-any.false,
      fun_ext (λ name. gathered.names name ∙ ap (λ b. b || names_called calls name) (none_held c.new.result name c.new.ensures.empty)),
    )

use Rattle.std.proofs.Common.{◌++◌, sym, ap, subst, ◌∙◌}
use Rattle.liquid_core.specs.ExpressionView.{expression_view}
use Rattle.liquid_evaluation.specs.Names.{expression_names}
use Rattle.liquid_syntax.specs.Flats.{arm_values}
use Rattle.liquid_syntax.specs.inside.Mentions.{arms_names, own_names}
use Rattle.liquid_syntax.proofs.OwnCases.{case_names}
use Rattle.liquid_syntax.proofs.visit_nodes.visit_node.Goals as goal

pub returns-in-Case : goal.returns-in-Case
returns-in-Case g c =
    let names = ap own_names c.in-Case.is ∙ case_names c.in-Case.target c.in-Case.arms _
    ∙ ap (λ arms. expression_names (expression_view c.in-Case.target) ++ arms_names (arm_values arms)) (sym c.deref-in-Case.ensures.value) in
    subst (λ names. g.V.NameVisitor.tells c.args.visitor.now names c.visit_case.result c.visit_case.new.visitor) (sym names) c.visit_case.ensures

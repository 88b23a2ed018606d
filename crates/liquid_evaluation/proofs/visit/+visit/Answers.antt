use Rattle.std.proofs.Common.{◌≡◌, [], ◌∷◌, ◌++◌, sym, ap, ◌∙◌}
use Rattle.liquid_core.specs.ExpressionView.{expression_view, variable_view, steps_view}
use Rattle.liquid_evaluation.specs.Names.{expression_names, steps_names}
use Rattle.liquid_evaluation.proofs.Telling.{ended, went_on, item_ended, item_visited, all_visited}
use Rattle.liquid_evaluation.proofs.NameParts.{each_step, literal_names, variable_names}
use Rattle.liquid_evaluation.proofs.visit.+visit.Goals as goal

pub visit_expression-returns-in-Literal : goal.visit_expression-returns-in-Literal
visit_expression-returns-in-Literal g t c =
    let e : expression_names (expression_view c.args.expression.now) ≡ [] = ap (λ x. expression_names (expression_view x)) c.in-Literal.is ∙ literal_names c.in-Literal.field-0 in
    rw e (g.met.V.NameVisitor.laws.none c.args.visitor.now)

pub visit_steps-returns-then-visit_expression : goal.visit_steps-returns-then-visit_expression
visit_steps-returns-then-visit_expression g t c =
    rw (← c.deref-step-items.ensures.value)
    (item_ended g.met.V.NameVisitor.laws each_step _ _ _ _ _ _ _ c.loop-step.invariant c.visit_expression.ensures c.if-visit_expression.true c.step-item.is c.loop-step-test.true)

pub visit_steps-loop-step-preserved : goal.visit_steps-loop-step-preserved
visit_steps-loop-step-preserved g t c = item_visited g.met.V.NameVisitor.laws each_step _ _ _ _ _ _ _ c.loop-step.invariant c.visit_expression.ensures c.if-visit_expression.false c.step-item.is c.loop-step-test.true

pub visit_steps-returns : goal.visit_steps-returns
visit_steps-returns g t c =
    rw (← c.deref-step-items.ensures.value)
    (all_visited g.met.V.NameVisitor.laws each_step _ _ _ _ c.loop-step.invariant c.loop-step-test.false)

pub visit_variable-returns-then-visit : goal.visit_variable-returns-then-visit
visit_variable-returns-then-visit g t c =
    let steps = steps_names (steps_view c.args.variable.now.indexes.items) in
    let e : expression_names (variable_view c.args.variable.now) ≡ (c.as_str.result.now ∷ []) ++ steps = variable_names c.args.variable.now ∙ ap (λ n. n ∷ steps) (sym c.as_str.ensures.value) in
    ended g.met.V.NameVisitor.laws _ _ _ steps _ _ _ c.visit.ensures c.if-visit.true c.if-visit.true e

pub visit_variable-returns-else-visit : goal.visit_variable-returns-else-visit
visit_variable-returns-else-visit g t c =
    let steps = steps_names (steps_view c.args.variable.now.indexes.items) in
    let e : expression_names (variable_view c.args.variable.now) ≡ (c.as_str.result.now ∷ []) ++ steps = variable_names c.args.variable.now ∙ ap (λ n. n ∷ steps) (sym c.as_str.ensures.value) in
    went_on g.met.V.NameVisitor.laws _ _ _ _ _ _ _ _ c.visit.ensures c.if-visit.false c.visit_steps.ensures e

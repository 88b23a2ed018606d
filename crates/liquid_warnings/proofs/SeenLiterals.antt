-- The view of an expression that is a literal, or none.
use Rattle.std.proofs.Common.{◌≡◌, Some, None, rules, ap, ◌∙◌}
use Rattle.liquid_model.specs.View.{view}
use Rattle.liquid_model.specs.declared.value.Value.{Value}
use Rattle.liquid_core.specs.ExpressionView.{expression_view, variable_view}
use Rattle.liquid_core.specs.declared.expression.Expression.{Expression, Literal, Variable, the_lemmas}
use Rattle.liquid_core.specs.declared.expression.Variable as declared
use Rattle.liquid_core.proofs.ExpressionViews.{literal_is, variable_is}
use Rattle.liquid_warnings.specs.Literals.{literal_of}

pub of_literal : (x : Expression) (v : Value) → x ≡ Literal v → literal_of (expression_view x) ≡ Some (view v)
of_literal x v is = ap (λ y. literal_of (expression_view y)) is ∙ ap literal_of (literal_is v)

seen_variable : (w : declared.Variable) → expression_view (Variable w) ≡ variable_view w
seen_variable w = search (rules, the_lemmas)

pub of_variable : (x : Expression) (w : declared.Variable) → x ≡ Variable w → literal_of (expression_view x) ≡ None
of_variable x w is = ap (λ y. literal_of (expression_view y)) is ∙ ap literal_of (seen_variable w ∙ variable_is w)

-- An expression's view, level by level.
use Rattle.std.proofs.Common.{◌≡◌, List, [], ◌∷◌, Option, Some, None, string_bytes, refl, sym, ap, ◌∙◌, rules}
use Rattle.std.specs.Prelude.{codes, ◌++◌}
use Rattle.std.specs.Option.{option_and_then}
use Rattle.liquid_model.specs.Texts.{Text}
use Rattle.liquid_model.specs.Data.{Datum}
use Rattle.liquid_model.specs.Find.{step}
use Rattle.liquid_core.specs.Environment.{Environment, lookup}
use Rattle.liquid_core.specs.Expressions.{value_of}
use Rattle.liquid_core.specs.AlongSteps.{value_along_steps}
use Rattle.liquid_core.specs.Spelled.{as_step, spelled}
use Rattle.liquid_core.proofs.Steps.{steps_from}
use Rattle.liquid_model.specs.View.{view}
use Rattle.liquid_core.specs.Expression as tree
use Rattle.liquid_core.specs.ExpressionView.{expression_view, variable_view, steps_view}
use Rattle.liquid_model.specs.declared.value.Value.{Value}
use Rattle.liquid_core.specs.declared.expression.Expression.{Expression, Literal, the_lemmas}
use Rattle.liquid_core.specs.declared.expression.Variable as declared

pub literal_is : (v : Value) → expression_view (Literal v) ≡ tree.literal (view v)
literal_is v = search (rules, the_lemmas)

pub variable_is : (w : declared.Variable) → variable_view w ≡ tree.variable (string_bytes w.name) (steps_view w.indexes.items)
variable_is w = search (rules, the_lemmas)

-- a variable as a step
pub bracketed_variable : (w : declared.Variable) → as_step (variable_view w) (spelled (variable_view w)) ≡ codes "[" ++ (spelled (variable_view w) ++ codes "]")
bracketed_variable w = rw (variable_is w) refl

-- ---- a variable's value

pub value_from : (w : declared.Variable) (e : Environment) (name : Text) (xs : List Expression) (first : Option Datum) → name ≡ string_bytes w.name → xs ≡ w.indexes.items → first ≡ lookup e name
    → option_and_then (λ d. value_along_steps d (steps_view xs) e) first ≡ value_of (variable_view w) e
value_from w e name xs first n x h =
    ap (λ l. option_and_then (λ d. value_along_steps d (steps_view l) e) first) x
    ∙ steps_from (string_bytes w.name) (steps_view w.indexes.items) e first (h ∙ ap (lookup e) n)
    ∙ ap (λ y. value_of y e) (sym (variable_is w))

pub no_part : (d : Datum) (x : Expression) (xs rest : List Expression) (e : Environment) → xs ≡ x ∷ rest → None ≡ value_of (expression_view x) e → None ≡ value_along_steps d (steps_view xs) e
no_part d x xs rest e at h = ap (option_and_then (λ s. option_and_then (λ next. value_along_steps next (steps_view rest) e) (step d s))) h ∙ sym (ap (λ l. value_along_steps d (steps_view l) e) at)

pub no_step : (d s : Datum) (x : Expression) (xs rest : List Expression) (e : Environment) → xs ≡ x ∷ rest → Some s ≡ value_of (expression_view x) e → None ≡ step d s → None ≡ value_along_steps d (steps_view xs) e
no_step d s x xs rest e at h k =
    ap (option_and_then (λ next. value_along_steps next (steps_view rest) e)) k
    ∙ ap (option_and_then (λ s. option_and_then (λ next. value_along_steps next (steps_view rest) e) (step d s))) h
    ∙ sym (ap (λ l. value_along_steps d (steps_view l) e) at)

pub one_step : (d s n : Datum) (x : Expression) (xs rest : List Expression) (e : Environment) → xs ≡ x ∷ rest → Some s ≡ value_of (expression_view x) e → Some n ≡ step d s → value_along_steps n (steps_view rest) e ≡ value_along_steps d (steps_view xs) e
one_step d s n x xs rest e at h k =
    ap (option_and_then (λ next. value_along_steps next (steps_view rest) e)) k
    ∙ ap (option_and_then (λ s. option_and_then (λ next. value_along_steps next (steps_view rest) e) (step d s))) h
    ∙ sym (ap (λ l. value_along_steps d (steps_view l) e) at)

pub no_more : (d : Datum) (xs : List Expression) (e : Environment) → xs ≡ [] → Some d ≡ value_along_steps d (steps_view xs) e
no_more d xs e at = sym (ap (λ l. value_along_steps d (steps_view l) e) at)

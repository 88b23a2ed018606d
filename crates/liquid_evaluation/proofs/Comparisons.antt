-- A comparison of which the left side is found.
use Rattle.std.proofs.Common.{◌≡◌, Bool, Option, Some, Result, Ok, sym, ap, ◌∙◌, subst}
use Rattle.liquid_model.specs.Answer.{Answers}
use Rattle.liquid_model.specs.Data.{Datum}
use Rattle.liquid_model.specs.declared.error.Error.{Error}
use Rattle.liquid_model.specs.Fallible.{◌>>=◌}
use Rattle.liquid_core.specs.Environment.{Environment}
use Rattle.liquid_core.specs.Expression as tree
use Rattle.liquid_core.specs.ExpressionView.{expression_view}
use Rattle.liquid_core.specs.Expressions.{value_of, none_if_missing, sought}
use Rattle.liquid_core.specs.declared.expression.Expression.{Expression}
use Rattle.liquid_evaluation.specs.declared.comparison.ComparisonOperator.{ComparisonOperator}
use Rattle.liquid_evaluation.specs.declared.condition.Atom.{Atom}
use Rattle.liquid_evaluation.specs.declared.condition.Atom.TheVariants.{Compared}
use Rattle.liquid_evaluation.specs.ConditionView.{atom_view}
use Rattle.liquid_evaluation.specs.Evaluation.{atom_truth}
use Rattle.liquid_evaluation.specs.Tree.{compared}
use Rattle.liquid_evaluation.specs.inside.Comparisons.{truth_beside}

-- the left side is l, and the rest is as it is
left_found : (x y : tree.Expression) (operator : ComparisonOperator) (e : Environment) (l : Option Datum) → sought x e ≡ Ok l → atom_truth (compared x operator y) e ≡ truth_beside l operator y e
unfolding atom_truth
left_found x y operator e l is = ap (λ r. r >>= (λ l. truth_beside l operator y e)) is

-- a value that is there is sought with success
pub there_found : (x : tree.Expression) (e : Environment) (d : Datum) → Some d ≡ value_of x e → sought x e ≡ Ok (Some d)
there_found x e d h = ap (none_if_missing e.missing) (sym h)

pub beside_found : (atom : Atom) (left right : Expression) (operator : ComparisonOperator) (e : Environment) (l : Option Datum) (r : Result Bool Error) → atom ≡ Compared left operator right → sought (expression_view left) e ≡ Ok l
    → Answers (λ b. b) r (truth_beside l operator (expression_view right) e) → Answers (λ b. b) r (atom_truth (atom_view atom) e)
beside_found atom left right operator e l r is found h =
    subst (Answers (λ b. b) r) (sym (ap (λ a. atom_truth (atom_view a) e) is ∙ left_found (expression_view left) (expression_view right) operator e l found)) h

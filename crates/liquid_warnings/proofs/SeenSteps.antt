-- The view of a variable's steps, where there are some.
use Rattle.std.proofs.Common.{◌≡◌, ◌≤◌, List, [], ◌∷◌, length, None, arith, refl}
use Rattle.liquid_core.specs.ExpressionView.{steps_view}
use Rattle.liquid_core.specs.declared.expression.Expression.{Expression}
use Rattle.liquid_model.specs.Texts.{Text}
use Rattle.liquid_warnings.specs.TagOutputs.{before_steps}

pub none_before : (name : Text) (xs : List Expression) → 1 ≤ length xs → before_steps name (steps_view xs) ≡ None
none_before name [] h = absurd (omega arith)
none_before name (x ∷ xs) h = refl

-- The expression that an `Expression` or a `Variable` stands for.
use Rattle.std.specs.Prelude.{List, [], ◌∷◌, map, string_bytes}
use Rattle.liquid_model.specs.View.{view}
use Rattle.liquid_core.specs.Expression as tree
use Rattle.liquid_core.specs.declared.expression.Expression.{Expression, fold-Expression}
use Rattle.liquid_core.specs.declared.expression.Expression.TheOpen.{Expression-F, Variable-F}
use Rattle.liquid_core.specs.declared.expression.Variable.{Variable, fold-Variable}

abbrev pub steps_of : List tree.Expression → tree.Steps
steps_of [] = tree.no_steps
steps_of (x ∷ xs) = tree.step x (steps_of xs)

-- one level, with each expression inside already seen
abbrev pub expression_step : Expression-F tree.Expression tree.Expression → tree.Expression
expression_step (Expression-F.Literal v) = tree.literal (view v)
expression_step (Expression-F.Variable w) = w

abbrev pub variable_step : Variable-F tree.Expression tree.Expression → tree.Expression
variable_step w = tree.variable (string_bytes w.name) (steps_of w.indexes.items)

abbrev pub expression_view : Expression → tree.Expression
expression_view = fold-Expression tree.Expression tree.Expression expression_step variable_step

abbrev pub variable_view : Variable → tree.Expression
variable_view = fold-Variable tree.Expression tree.Expression expression_step variable_step

abbrev pub steps_view : List Expression → tree.Steps
steps_view xs = steps_of (map expression_view xs)

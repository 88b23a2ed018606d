-- An expression, level by level.
use Rattle.std.proofs.Common.{◌≡◌, Vec, String, Global, string_bytes, rules}
use Rattle.liquid_core.specs.Expression as tree
use Rattle.liquid_core.specs.ExpressionView.{expression_view, steps_view}
use Rattle.liquid_core.specs.declared.expression.Expression.{Expression, Variable, the_lemmas}
use Rattle.liquid_core.specs.declared.expression.Variable.{roll-Variable}

pub view-Variable : (w : String Global) (xs : Vec Expression Global) → expression_view (Variable (roll-Variable record { name = w; indexes = xs })) ≡ tree.variable (string_bytes w) (steps_view xs.items)
view-Variable w xs = search (rules, the_lemmas)

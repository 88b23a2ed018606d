use Rattle.std.proofs.Common.{refl}
use Rattle.liquid_core.proofs.ExpressionViews.{literal_is}
use Rattle.liquid_core.proofs.Steps.{literal_value}
use Rattle.liquid_core.proofs.expression.Expression.direct_value.Goals as goal

pub returns-in-Literal : goal.returns-in-Literal
returns-in-Literal c = rw (c.in-Literal.is, literal_is c.in-Literal.value, literal_value) refl

use Rattle.std.proofs.Common.{subst, sym, ap, ◌∙◌}
use Rattle.liquid_core.proofs.DirectValues.{by_literal}
use Rattle.liquid_core.proofs.expression.direct_step.Goals as goal

pub returns-in-Literal : goal.returns-in-Literal
returns-in-Literal c e = by_literal c.direct_part.result c.args.value.now c.args.index.now c.in-Literal.part e c.in-Literal.is c.direct_part.ensures

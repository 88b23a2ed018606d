use Rattle.std.proofs.Common.{true, map}
use Rattle.liquid_model.specs.View.{view}
use Rattle.liquid_filters.specs.NumberLaws.{IsRemainder}
use Rattle.liquid_filters.specs.Numbers.{modulo}
use Rattle.liquid_filters.proofs.Operations.{modulo_one}
use Rattle.liquid_filters.proofs.NumberStanding.{operated}
use Rattle.liquid_filters.proofs.stdlib.filters.math.arithmetic.ModuloFilter.evaluate.Goals as goal

pub returns-clause-relation : goal.returns-clause-relation
returns-clause-relation c = operated IsRemainder true modulo modulo_one (view c.args.input.now) (map view c.args.args.now) c.modulo_answer.result c.modulo_answer.ensures.answer

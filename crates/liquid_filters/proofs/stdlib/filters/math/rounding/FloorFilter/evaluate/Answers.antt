use Rattle.std.proofs.Common.{map}
use Rattle.liquid_model.specs.View.{view}
use Rattle.liquid_filters.specs.declared.stdlib.filters.math.decimal.Rounding.TheVariants.{Down}
use Rattle.liquid_filters.proofs.NumberStanding.{brought}
use Rattle.liquid_filters.proofs.stdlib.filters.math.rounding.FloorFilter.evaluate.Goals as goal

pub returns-clause-relation : goal.returns-clause-relation
returns-clause-relation c = brought Down (view c.args.input.now) (map view c.args.args.now) c.floor_answer.result c.floor_answer.ensures.answer

use Rattle.std.proofs.Common.{map}
use Rattle.liquid_model.specs.View.{view}
use Rattle.liquid_filters.specs.declared.stdlib.filters.math.decimal.Rounding.TheVariants.{Up}
use Rattle.liquid_filters.proofs.NumberStanding.{brought}
use Rattle.liquid_filters.proofs.stdlib.filters.math.rounding.CeilFilter.evaluate.Goals as goal

pub returns-clause-relation : goal.returns-clause-relation
returns-clause-relation c = brought Up (view c.args.input.now) (map view c.args.args.now) c.ceil_answer.result c.ceil_answer.ensures.answer

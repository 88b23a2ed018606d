use Rattle.std.proofs.Common.{map}
use Rattle.liquid_model.specs.View.{view}
use Rattle.liquid_filters.proofs.ListStanding.{uniqs}
use Rattle.liquid_filters.proofs.stdlib.filters.array.selection.UniqFilter.evaluate.Goals as goal

pub returns-clause-relation : goal.returns-clause-relation
returns-clause-relation c = uniqs (view c.args.input.now) (map view c.args.args.now) c.uniq_answer.result c.uniq_answer.ensures

use Rattle.liquid_model.specs.Answer.{Answers}
use Rattle.liquid_model.specs.View.{view}
use Rattle.liquid_model.specs.Arguments.{Answer}
use Rattle.liquid_filters.proofs.Rows.{concat_given, one_in}
use Rattle.liquid_filters.proofs.stdlib.filters.array.reverse_and_concat.concat_answer.Goals as goal

pub bounds-args-0 : goal.bounds-args-0
bounds-args-0 c = one_in c.args.args.now c.requires

pub returns : goal.returns
returns c = concat_given (λ (a : Answer). Answers view c.followed.result a) (view c.args.input.now) c.args.args.now c.index-args-0.result c.requires c.index-args-0.is c.followed.ensures

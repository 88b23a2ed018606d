use Rattle.std.proofs.Common.{arith}
use Rattle.liquid_model.specs.Answer.{Answers}
use Rattle.liquid_model.specs.View.{view}
use Rattle.liquid_model.specs.Arguments.{Answer}
use Rattle.liquid_filters.proofs.Arguments.{two_in, of_two}
use Rattle.liquid_filters.proofs.extra.date.DateInTzFilter.evaluate.Goals as goal

pub bounds-args-0 : goal.bounds-args-0
bounds-args-0 c = omega (arith, two_in c.args.args.now c.requires)

pub bounds-args-1 : goal.bounds-args-1
bounds-args-1 c = two_in c.args.args.now c.requires

pub returns : goal.returns
returns c =
    of_two (λ (a : Answer). Answers view c.shifted.result a) (view c.args.input.now) c.args.args.now c.index-args-0.result c.index-args-1.result c.requires c.index-args-0.is c.index-args-1.is c.shifted.ensures

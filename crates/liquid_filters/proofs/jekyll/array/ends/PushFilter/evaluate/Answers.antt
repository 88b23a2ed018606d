use Rattle.std.proofs.Common.{refl}
use Rattle.liquid_model.specs.Answer.{Answers}
use Rattle.liquid_model.specs.View.{view}
use Rattle.liquid_model.specs.Arguments.{Answer}
use Rattle.liquid_filters.specs.JekyllEnds.{push_answer}
use Rattle.liquid_filters.proofs.JekyllEnds.{of_first, one_in}
use Rattle.liquid_filters.proofs.jekyll.array.ends.PushFilter.evaluate.Goals as goal

pub bounds-args-0 : goal.bounds-args-0
bounds-args-0 c = one_in c.args.args.now c.requires

pub returns : goal.returns
returns c =
    of_first (λ (a : Answer). Answers view c.with_last.result a) (push_answer (view c.args.input.now)) (λ y ys. refl) c.args.args.now c.index-args-0.result c.requires c.index-args-0.is c.with_last.ensures

use Rattle.std.proofs.Common.{◌≡◌, map}
use Rattle.liquid_model.specs.Cow.{cow_view}
use Rattle.liquid_evaluation.specs.Evaluation.{numbers_from}
use Rattle.liquid_evaluation.proofs.range.numbers.Given as goal

abbrev pub invariant-loop-place : goal.invariant-loop-place
invariant-loop-place l = map cow_view l.numbers.items ≡ numbers_from l.first l.place

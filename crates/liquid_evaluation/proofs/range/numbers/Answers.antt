use Rattle.std.proofs.Common.{◌≡◌, arith, w64, ap, ◌∙◌}
use Rattle.std.proofs.lemmas.Int.{to_z-of_z}
use Rattle.liquid_evaluation.specs.Evaluation.{numbers_from}
use Rattle.liquid_evaluation.proofs.RangeParts.{numbers_pushed}
use Rattle.liquid_evaluation.proofs.range.numbers.Goals as goal

pub loop-place-preserved : goal.loop-place-preserved
loop-place-preserved c =
    numbers_pushed c.args.first c.args.last _ _ c.loop-place.place c.args.count c.loop-place.numbers.items c.push.new.self.items c.number_at-number.result
    (to_z-of_z w64 c.args.first c.ranges.first) (to_z-of_z w64 c.args.last c.ranges.last)
    c.in_ok-push.ensures.items c.number_at-number.ensures (omega arith) c.requires c.loop-place.invariant

pub returns : goal.returns
returns c =
    let all : c.loop-place.place ≡ c.args.count = omega arith in
    c.loop-place.invariant ∙ ap (λ z. numbers_from z c.loop-place.place) (to_z-of_z w64 c.args.first c.ranges.first) ∙ ap (numbers_from c.args.first) all

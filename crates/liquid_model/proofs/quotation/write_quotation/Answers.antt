use Rattle.std.proofs.Common.{rules, arith, ◌++◌, ◌-◌, ap, refl, sym, ◌∙◌, append_assoc, append-nil, subst}
use Rattle.std.specs.Prelude.{codes}
use Rattle.std.specs.Fmt.{HasWritten}
use Rattle.std.specs.Str.{chars}
use Rattle.std.proofs.lemmas.Grind.{put_two}
use Rattle.std.proofs.lemmas.Str.{IsUtf8-past_char}
use Rattle.liquid_model.specs.Quotes.{quoted, character_shown}
use Rattle.liquid_model.proofs.Quotes.{quoted_stop, quoted_turn, quoted_end}
use Rattle.liquid_model.proofs.quotation.write_quotation.Goals as goal

pub returns-then-left-cost : goal.returns-then-left-cost
returns-then-left-cost g c plain ok =
    let before = c.loop-letter.invariant.1 plain in
    let step = c.in-Some.ensures.steps.0 in
    put_two _ _ _ _ before.0 (codes "...") _ before.1 (c.write_str.ensures.writes before.1.plain ok)
    (ap (λ t. before.0 ++ t) (sym (quoted_stop c.loop-letter.left c.cost-cost.result c.in-Some.letter _ _ c.loop-letter.invariant.0 step c.cost-cost.ensures (omega (arith, c.if-left-cost.true)))) ∙ before.2)

pub loop-letter-preserved : goal.loop-letter-preserved
loop-letter-preserved g c =
    let step = c.in-Some.ensures.steps.0 in (
      IsUtf8-past_char _ _ c.in-Some.letter c.loop-letter.invariant.0 step,
      λ plain.
          let before = c.loop-letter.invariant.1 plain in
          let rest = c.next.new.self.rest.now in
          let left = c.loop-letter.left - c.cost-cost.result in
          let one = c.in_ok-write_shown.ensures before.1.plain (search rules) in (
            before.0 ++ character_shown c.in-Some.letter,
            put_two _ _ _ _ before.0 (character_shown c.in-Some.letter) _ before.1 one refl,
            append_assoc before.0 (character_shown c.in-Some.letter) (quoted left (chars rest))
                ∙ ap (λ t. before.0 ++ t) (sym (quoted_turn c.loop-letter.left c.cost-cost.result c.in-Some.letter _ _ c.loop-letter.invariant.0 step c.cost-cost.ensures (omega (arith, c.if-left-cost.false))))
                ∙ before.2,
          ),
    )

pub returns : goal.returns
returns g c plain ok =
    let before = c.loop-letter.invariant.1 plain in
    let none = quoted_end c.loop-letter.left c.loop-letter.rest.rest.now c.in_default.ensures.steps.0.0 in
    subst (λ t. HasWritten g.W.Write.write_str_gives c.args.f.now t c.loop-letter.f)
    (sym (append-nil before.0) ∙ ap (λ t. before.0 ++ t) (sym none) ∙ before.2) before.1

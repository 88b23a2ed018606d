use Rattle.std.proofs.Common.{rules, ◌++◌, ap, refl, sym, ◌∙◌, append_assoc, append-nil, subst}
use Rattle.std.specs.Fmt.{HasWritten}
use Rattle.std.specs.Str.{chars}
use Rattle.std.proofs.lemmas.Grind.{put_two}
use Rattle.std.proofs.lemmas.Str.{IsUtf8-past_char}
use Rattle.liquid_files.specs.ShownNames.{shown_letter, shown_letters}
use Rattle.liquid_files.proofs.ShownNames.{name_turn, name_end}
use Rattle.liquid_files.proofs.shown_name.write_name.Goals as goal

pub loop-letter-preserved : goal.loop-letter-preserved
loop-letter-preserved g c =
    let step = c.in-Some.ensures.steps.0 in (
      IsUtf8-past_char _ _ c.in-Some.letter c.loop-letter.invariant.0 step,
      λ plain.
          let before = c.loop-letter.invariant.1 plain in
          let rest = c.next.new.self.rest.now in
          let one = c.in_ok-write_letter.ensures before.1.plain (search rules) in (
            before.0 ++ shown_letter c.in-Some.letter,
            put_two _ _ _ _ before.0 (shown_letter c.in-Some.letter) _ before.1 one refl,
            append_assoc before.0 (shown_letter c.in-Some.letter) (shown_letters (chars rest))
                ∙ ap (λ t. before.0 ++ t) (sym (name_turn _ _ c.in-Some.letter c.loop-letter.invariant.0 step))
                ∙ before.2,
          ),
    )

pub returns : goal.returns
returns g c plain ok =
    let before = c.loop-letter.invariant.1 plain in
    let none = name_end c.loop-letter.rest.rest.now c.in_default.ensures.steps.0.0 in
    subst (λ t. HasWritten g.W.Write.write_str_gives c.args.f.now t c.loop-letter.f)
    (sym (append-nil before.0) ∙ ap (λ t. before.0 ++ t) (sym none) ∙ before.2) before.1

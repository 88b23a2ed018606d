use Rattle.std.proofs.Common.{◌∙◌, ap, sym, arith, length}
use Rattle.std.proofs.lemmas.List.{length-append}
use Rattle.std.proofs.lemmas.Str.{chars_past_char, IsUtf8-past_char}
use Rattle.std.specs.Char.{encode_utf8}
use Rattle.std.specs.Str.{chars}
use Rattle.liquid_filters.proofs.Tags.{after_more}
use Rattle.liquid_filters.proofs.stdlib.filters.html.marks.after_mark.Goals as goal

pub loop-wanted-preserved : goal.loop-wanted-preserved
loop-wanted-preserved c =
    let inv = c.loop-wanted.invariant in
    let e = c.in-Some.ensures.steps.0 in
    let rest = c.loop-wanted.rest.rest.now in
    let more = c.next.new.self.rest.now in
    let n = ap length e ∙ length-append (encode_utf8 c.in-Some.found) more in (
      IsUtf8-past_char rest more c.in-Some.found inv.0 e,
      after_more c.args.mark.now (chars c.args.text.now) (chars rest) (chars more) _ _ _ _ c.loop-wanted-test.true c.wanted-item.is (chars_past_char rest more c.in-Some.found inv.0 e) (sym c.if-stands_for.ensures) inv.1,
      omega (arith, n, inv.2),
    )

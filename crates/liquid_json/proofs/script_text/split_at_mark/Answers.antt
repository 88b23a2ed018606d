use Rattle.std.proofs.Common.{◌≡◌, ◌+◌, ◌<◌, length, get_or, ap, subst, sym, ◌∙◌, arith, rules}
use Rattle.std.proofs.lemmas.Bool.Decides.{nat_tests}
use Rattle.std.proofs.lemmas.List.{get_or-drop}
use Rattle.std.proofs.lemmas.Str.{IsCharBoundary-after_ascii}
use Rattle.std.specs.Str.{IsUtf8}
use Rattle.liquid_json.proofs.ScriptMarks.{mark_ascii}
use Rattle.liquid_json.proofs.script_text.split_at_mark.Goals as goal

pub split_at-requires-2 : goal.split_at-requires-2
split_at-requires-2 c =
    let text = c.args.text.now in
    let bytes = c.as_bytes-bytes.result.now in
    let at = c.plain_len-at.result in
    let marked = c.split_at.result.1.now in
    let within = c.plain_len-at.ensures.within in
    let other = c.if-at-bytes.false in
    let more : at < length bytes = grind (arith, nat_tests) in
    let small : get_or bytes at 0 < 128 = mark_ascii (get_or bytes at 0) (c.plain_len-at.ensures.mark more) in
    let same : at + 0 ≡ at = omega arith in
    let first : get_or marked 0 0 ≡ get_or bytes at 0 =
    ap (λ t. get_or t 0 0) c.split_at.ensures.back ∙ get_or-drop at text 0 0 ∙ ap (λ k. get_or text k 0) same ∙ ap (λ t. get_or t at 0) (sym c.as_bytes-bytes.ensures.value) in
    let utf8 : IsUtf8 marked = search rules in
    IsCharBoundary-after_ascii marked 0 utf8 (omega (arith, more, c.split_at.ensures.back_len, ap length c.as_bytes-bytes.ensures.value)) (subst (λ b. b < 128) (sym first) small)

use Rattle.std.proofs.Common.{rules, ◌≡◌, ap, sym, ◌∙◌, Some}
use Rattle.std.specs.Option.{option_map}
use Rattle.liquid_model.specs.Front.{past_byte, word_at}
use Rattle.liquid_model.proofs.WordLaws.{byte_some}
use Rattle.liquid_lexer.specs.ValueReading.{marked, member_name, member_word_at}
use Rattle.liquid_lexer.proofs.MemberCuts.{marked_cut, marked_front, marked_joined, marked_rest}
use Rattle.liquid_lexer.proofs.value.member_name.Goals as goal

pub split_at-requires : goal.split_at-requires
split_at-requires c =
    let text = c.args.text.now in
    let name = c.in_ok-name.name.now in
    let rest = c.in_ok-name.rest.now in
    let after = c.in-Some.field-0.now in
    let h : word_at text ≡ Some (name, rest) = search rules in
    let p : past_byte 63 rest ≡ Some after = search rules in
    marked_cut text name after c.utf8.text (marked_joined text name rest after h (byte_some 63 rest after p))

pub returns-in-Some : goal.returns-in-Some
unfolding member_word_at
returns-in-Some c =
    let text = c.args.text.now in
    let name = c.in_ok-name.name.now in
    let rest = c.in_ok-name.rest.now in
    let after = c.in-Some.field-0.now in
    let h : word_at text ≡ Some (name, rest) = search rules in
    let p : past_byte 63 rest ≡ Some after = search rules in
    let e = marked_joined text name rest after h (byte_some 63 rest after p) in
    let front = c.split_at.ensures.front ∙ marked_front text name after e in
    let back = c.split_at.ensures.back ∙ marked_rest text name after e in
    (λ i. Some (front i, back i)) ∙ ap (λ o. Some (marked name rest o)) (sym p) ∙ ap (option_map member_name) (sym h)

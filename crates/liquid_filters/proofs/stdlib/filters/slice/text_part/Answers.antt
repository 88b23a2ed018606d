use Rattle.std.proofs.Common.{◌≡◌, ◌-◌, length, min, take, drop, w64, sym, ap, ◌∙◌}
use Rattle.std.proofs.lemmas.Int.{to_z-of_z}
use Rattle.std.proofs.lemmas.Str.{chars_from_encodes}
use Rattle.std.specs.Str.{chars, encode_utf8_all}
use Rattle.liquid_filters.specs.TextPlaces.{start, part_from}
use Rattle.liquid_filters.proofs.stdlib.filters.slice.text_part.Goals as goal

pub returns-in-Some : goal.returns-in-Some
returns-in-Some c =
    let s = c.args.text.now in
    let letters : drop c.in-Some.from (chars s) ≡ chars c.after_characters.result.now = chars_from_encodes _ _ c.after_characters.utf8 (sym c.after_characters.ensures) in
    c.first_characters.ensures ∙ ap (λ n. encode_utf8_all (take n (chars c.after_characters.result.now))) c.min.ensures
    ∙ ap (λ cs. encode_utf8_all (take (min c.args.count (length s - c.in-Some.from)) cs)) (sym letters)
    ∙ ap (λ o. encode_utf8_all (part_from (length s) o c.args.count (chars s))) (c.in-Some.ensures.place ∙ ap (λ z. start (length s) z) (to_z-of_z w64 c.args.offset c.ranges.offset))

use Rattle.std.proofs.Common.{◌++◌, take, sym, ap, ◌∙◌}
use Rattle.std.proofs.lemmas.List.{append_cancel_right}
use Rattle.std.specs.Str.{chars, encode_utf8_all}
use Rattle.liquid_filters.proofs.Characters.{characters_cut}
use Rattle.liquid_filters.proofs.text_parts.first_characters.Goals as goal

pub before-requires : goal.before-requires
before-requires c = (
  encode_utf8_all (take c.args.count (chars c.args.text.now)),
  characters_cut c.args.text.now c.args.count c.utf8.text ∙ ap (λ t. encode_utf8_all (take c.args.count (chars c.args.text.now)) ++ t) (sym c.after_characters.ensures),
)

pub returns : goal.returns
returns c =
    append_cancel_right _ _ c.after_characters.result.now
    (sym c.before-2.ensures ∙ characters_cut c.args.text.now c.args.count c.utf8.text ∙ ap (λ t. encode_utf8_all (take c.args.count (chars c.args.text.now)) ++ t) (sym c.after_characters.ensures))

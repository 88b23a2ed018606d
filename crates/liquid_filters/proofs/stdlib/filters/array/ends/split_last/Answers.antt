use Rattle.std.proofs.Common.{◌≡◌, ◌++◌, sym, ap, ◌∙◌}
use Rattle.std.proofs.lemmas.List.{nil_from_length}
use Rattle.std.proofs.lemmas.Str.{chars-nil}
use Rattle.std.specs.Char.{encode_utf8}
use Rattle.std.specs.Str.{chars}
use Rattle.liquid_filters.proofs.Ends.{chars_last}
use Rattle.liquid_filters.proofs.stdlib.filters.array.ends.split_last.Goals as goal

pub returns-in-Some : goal.returns-in-Some
returns-in-Some c =
    let e : c.args.text.now ≡ c.as_str.result.now ++ encode_utf8 c.in-Some.letter =
    sym c.chars-letters.ensures.rest ∙ c.in-Some.ensures.steps ∙ ap (λ t. t ++ encode_utf8 c.in-Some.letter) (sym c.as_str.ensures) in
    chars_last _ _ _ c.utf8.text c.as_str.utf8 e

pub returns-in-None : goal.returns-in-None
returns-in-None c = ap chars (sym c.chars-letters.ensures.rest ∙ nil_from_length _ c.in-None.ensures.steps.0) ∙ chars-nil

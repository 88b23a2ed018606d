-- Where characters lead in HTML, one after another.
use Rattle.std.proofs.Common.{◌≡◌, ℕ, List, [], ◌∷◌, ◌++◌, length, ap, sym, ◌∙◌, arith}
use Rattle.std.proofs.lemmas.Str.{chars_past_char, chars-nil, IsUtf8-past_char}
use Rattle.std.specs.Char.{encode_utf8}
use Rattle.std.specs.Str.{chars, IsUtf8}
use Rattle.liquid_warnings.specs.HtmlPlaces.{next_place, place_after}
use Rattle.liquid_warnings.specs.declared.html_place.HtmlPlace.{HtmlPlace}

pub rest_utf8 : (s rest : List ℕ) (c : ℕ) → s ≡ encode_utf8 c ++ rest → IsUtf8 s → IsUtf8 rest
rest_utf8 s rest c e u = IsUtf8-past_char s rest c u e

pub place_turn : (p q : HtmlPlace) (s rest : List ℕ) (c : ℕ) → s ≡ encode_utf8 c ++ rest → IsUtf8 s → q ≡ next_place p c
    → place_after p (chars s) ≡ place_after q (chars rest)
place_turn p q s rest c e u n =
    ap (place_after p) (chars_past_char s rest c u e) ∙ ap (λ r. place_after r (chars rest)) (sym n)

pub place_end : (p : HtmlPlace) (s : List ℕ) → length s ≡ 0 → place_after p (chars s) ≡ p
place_end p [] z = ap (place_after p) chars-nil
place_end p (b ∷ s) z = absurd (omega arith)

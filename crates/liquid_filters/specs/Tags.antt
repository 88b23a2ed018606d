-- Four passes over the characters of a text. Each cuts from an opener to the end of the first
-- closer after it.
use Rattle.std.specs.Prelude.{◌≡◌, ℕ, zero, suc, ◌-◌, ◌+◌, Bool, true, false, ◌&&◌, ◌||◌, ◌==◌, not}
use Rattle.std.specs.Prelude.{List, [], ◌∷◌, length, take, drop, MatchOption, Option, Some, None}
use Rattle.std.specs.Prelude.{option_map, if◌then◌else◌, codes}
use Rattle.std.specs.Char.{to_ascii_lowercase}
use Rattle.std.specs.List.{list_all}
use Rattle.std.specs.Str.{chars, encode_utf8_all}
use Rattle.liquid_model.specs.Data.{Datum}
use Rattle.liquid_model.specs.Texts.{Text}
use Rattle.liquid_model.specs.Arguments.{Answer}
use Rattle.liquid_model.specs.Text.{of_text}

-- the mark's character x stands for c: in either case, and `s` for U+017F too
abbrev pub stands_for : ℕ → ℕ → Bool
stands_for x c = to_ascii_lowercase c == x || (x == 115 && c == 383)

-- the text begins with the mark
abbrev pub begins_mark : List ℕ → List ℕ → Bool
begins_mark [] s = true
begins_mark (x ∷ p) [] = false
begins_mark (x ∷ p) (c ∷ s) = stands_for x c && begins_mark p s

-- the mark stands somewhere in the text
abbrev pub has_mark : List ℕ → List ℕ → Bool
has_mark p [] = false
has_mark p (c ∷ s) = begins_mark p (c ∷ s) || has_mark p s

-- what a pass keeps: `inside` a cut or outside, where the first k characters still belong to a mark
abbrev pub kept : List ℕ → List ℕ → Bool → ℕ → List ℕ → List ℕ
kept o e inside k [] = []
kept o e inside (suc k) (c ∷ s) = kept o e inside k s
kept o e false zero (c ∷ s) = if begins_mark o (c ∷ s) &&
    has_mark e (drop (length o) (c ∷ s)) then kept o e true (length o - 1) s else c ∷
    kept o e false zero s
kept o e true zero (c ∷ s) = if begins_mark e (c ∷ s) then kept o e false (length e - 1) s else kept
    o e true zero s

-- the text without what stands from an opener to a closer
abbrev pub without_pairs : List ℕ → List ℕ → List ℕ → List ℕ
without_pairs o e s = kept o e false 0 s

-- scripts, then styles, then comments, then tags
abbrev pub without_tags : List ℕ → List ℕ
without_tags s = without_pairs (codes "<") (codes ">") (without_pairs (codes "<!--") (codes "-->") (without_pairs (codes "<style") (codes "</style>") (without_pairs (codes "<script") (codes "</script>") s)))

abbrev pub strip_html : Text → Text
strip_html s = encode_utf8_all (without_tags (chars s))

abbrev pub strip_html_answer : Datum → List Datum → Answer
strip_html_answer = of_text strip_html

-- the first place of a mark
abbrev pub first_mark : List ℕ → List ℕ → Option ℕ
first_mark p [] = None
first_mark p (c ∷ s) = if begins_mark p (c ∷ s) then Some 0 else option_map (λ k. k + 1)
    (first_mark p s)

-- what stands before the first place of a mark, and what follows the mark there
abbrev pub SplitsAtFirst : List ℕ → List ℕ → Option (List ℕ × List ℕ) → Type 0
SplitsAtFirst p s r = MatchOption r (first_mark p s ≡ None) (λ q. (i : ℕ) ×
    (first_mark p s ≡ Some i) × (q.0 ≡ take i s) × (q.1 ≡ drop (i + length p) s))

-- an opener begins with `<`, and has no other
abbrev pub is_opener : List ℕ → Bool
is_opener [] = false
is_opener (x ∷ p) = x == 60 && list_all (λ y. not (y == 60)) p

-- a mark begins with `<`, `-` or `>`, which stand for themselves alone
abbrev pub is_mark : List ℕ → Bool
is_mark [] = false
is_mark (x ∷ p) = x == 60 || x == 45 || x == 62

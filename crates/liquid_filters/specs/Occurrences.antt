-- Where a text occurs in another, and what stands between its occurrences: relations, each of which
-- the filter's function alone stands in.
use Rattle.std.specs.Prelude.{◌≡◌, ℕ, ◌<◌, ◌≤◌, ◌⊎◌, true, List, [], ◌∷◌, ◌++◌, length, map}
use Rattle.std.specs.Char.{encode_utf8}
use Rattle.std.specs.Str.{all_scalars, encode_utf8_all}
use Rattle.std.specs.Str.Pattern.{LacksTextAt}
use Rattle.liquid_model.specs.Texts.{Text}
use Rattle.liquid_model.specs.Joined.{joined}

-- p occurs nowhere in s
abbrev pub Lacks : Text → Text → Type 0
Lacks p s = (i : ℕ) → i ≤ length s → LacksTextAt p s i

-- p occurs nowhere before place i of s
abbrev pub LacksBefore : Text → Text → ℕ → Type 0
LacksBefore p s i = (k : ℕ) → k < i → LacksTextAt p s k

-- the pieces of s between the occurrences of p: each but the last ends at the first occurrence in
-- what is left, and what follows that is left next
abbrev pub ArePieces : Text → List Text → Text → Type 0
ArePieces p [] s = ⊥
ArePieces p (x ∷ []) s = (x ≡ s) × Lacks p s
ArePieces p (x ∷ (y ∷ ys)) s = (rest : Text) × (s ≡ x ++ (p ++ rest)) × LacksBefore p s (length x) ×
    ArePieces p (y ∷ ys) rest

-- the pieces of s by the empty text: an empty piece, each of its characters, an empty piece
abbrev pub AreCharacters : List Text → Text → Type 0
AreCharacters ps s = (cs : List ℕ) × (all_scalars cs ≡ true) × (s ≡ encode_utf8_all cs) ×
    (ps ≡ [] ∷ (map encode_utf8 cs ++ ([] ∷ [])))

abbrev pub Splits : Text → Text → List Text → Type 0
Splits [] s ps = AreCharacters ps s
Splits (x ∷ p) s ps = ArePieces (x ∷ p) ps s

-- t is s with r in place of each occurrence of p
abbrev pub Replaces : Text → Text → Text → Text → Type 0
Replaces p r s t = (ps : List Text) × Splits p s ps × (t ≡ joined r ps)

-- t is s with r in place of the first occurrence of p, or s where p does not occur
abbrev pub ReplacesFirst : Text → Text → Text → Text → Type 0
ReplacesFirst p r s t =
    (Lacks p s × (t ≡ s)) ⊎ ((before : Text) × (after : Text) × (s ≡ before ++ (p ++ after)) ×
    LacksBefore p s (length before) × (t ≡ before ++ (r ++ after)))

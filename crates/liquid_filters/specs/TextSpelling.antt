-- Texts as their characters.
use Rattle.std.specs.Prelude.{◌≡◌, ◌≢◌, ℕ, ◌⊎◌, ⊤, true, false, List, [], ◌∷◌, ◌++◌, map}
use Rattle.std.specs.Char.{encode_utf8, is_whitespace, to_ascii_uppercase}
use Rattle.std.specs.Str.{all_scalars, encode_utf8_all}
use Rattle.liquid_model.specs.Texts.{Text}

-- the characters spell s
abbrev pub Spell : List ℕ → Text → Type 0
Spell cs s = (all_scalars cs ≡ true) × (s ≡ encode_utf8_all cs)

-- t has for each character of s the one that f makes of it
abbrev pub MapsCharacters : (ℕ → ℕ) → Text → Text → Type 0
MapsCharacters f s t = (cs : List ℕ) × Spell cs s × (t ≡ encode_utf8_all (map f cs))

-- t is s with its first character, if it has one, in upper case
abbrev pub Capitalizes : Text → Text → Type 0
Capitalizes s t = ((s ≡ []) × (t ≡ [])) ⊎ ((c : ℕ) × (rest : Text) × (s ≡ encode_utf8 c ++ rest) ×
    (t ≡ encode_utf8 (to_ascii_uppercase c) ++ rest))

-- white space alone
abbrev pub AreWhite : List ℕ → Type 0
AreWhite [] = ⊤
AreWhite (c ∷ cs) = (is_whitespace c ≡ true) × AreWhite cs

-- no white space at the start
abbrev pub StartsPlain : List ℕ → Type 0
StartsPlain [] = ⊤
StartsPlain (c ∷ cs) = is_whitespace c ≡ false

-- no white space at the end
abbrev pub EndsPlain : List ℕ → Type 0
EndsPlain [] = ⊤
EndsPlain (c ∷ []) = is_whitespace c ≡ false
EndsPlain (c ∷ (d ∷ cs)) = EndsPlain (d ∷ cs)

-- t is s without the white space at its start
abbrev pub StripsStart : Text → Text → Type 0
StripsStart s t = (white : List ℕ) × (kept : List ℕ) × Spell (white ++ kept) s × AreWhite white ×
    StartsPlain kept × (t ≡ encode_utf8_all kept)

-- at its end
abbrev pub StripsEnd : Text → Text → Type 0
StripsEnd s t = (kept : List ℕ) × (white : List ℕ) × Spell (kept ++ white) s × AreWhite white ×
    EndsPlain kept × (t ≡ encode_utf8_all kept)

-- at both
abbrev pub StripsEnds : Text → Text → Type 0
StripsEnds s t = (before : List ℕ) × (kept : List ℕ) × (after : List ℕ) ×
    Spell (before ++ (kept ++ after)) s
    × AreWhite before × AreWhite after × StartsPlain kept × EndsPlain kept ×
    (t ≡ encode_utf8_all kept)

-- ds are the characters of cs that are neither LF nor CR, in their order
abbrev pub KeepsLines : List ℕ → List ℕ → Type 0
KeepsLines [] ds = ds ≡ []
KeepsLines (c ∷ cs) ds = (((c ≡ 10) ⊎ (c ≡ 13)) × KeepsLines cs ds) ⊎
    ((c ≢ 10) × (c ≢ 13) × (rest : List ℕ) × (ds ≡ c ∷ rest) × KeepsLines cs rest)

abbrev pub StripsNewlines : Text → Text → Type 0
StripsNewlines s t = (cs : List ℕ) × (ds : List ℕ) × Spell cs s × KeepsLines cs ds ×
    (t ≡ encode_utf8_all ds)

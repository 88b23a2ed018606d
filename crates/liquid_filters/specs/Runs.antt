-- What a slug is made of: runs of characters.
use Rattle.std.specs.Prelude.{◌≡◌, ℕ, ◌==◌, ◌&&◌, ◌||◌, nat_le, ⊤, Bool, true, false, List, [], ◌∷◌}
use Rattle.std.specs.Prelude.{◌++◌, map}
use Rattle.std.specs.Char.{to_ascii_lowercase}
use Rattle.std.specs.List.{concat}
use Rattle.std.specs.Str.{chars, encode_utf8_all, trim}
use Rattle.liquid_model.specs.Texts.{Text}
use Rattle.liquid_filters.specs.Slugs.{keeps}
use Rattle.liquid_filters.specs.declared.jekyll.slugify.Mode.{Mode}

-- a character that is kept, or a run of others, which isn't empty
pub data TextPart : Type 0 where
  kept : ℕ → TextPart
  other : ℕ → List ℕ → TextPart

abbrev pub characters_of : TextPart → List ℕ
characters_of (kept c) = c ∷ []
characters_of (other c cs) = c ∷ cs

abbrev pub shown_of : TextPart → List ℕ
shown_of (kept c) = c ∷ []
shown_of (other c cs) = 45 ∷ []

-- none of them is kept
abbrev pub AreOther : (ℕ → Bool) → List ℕ → Type 0
AreOther keeps [] = ⊤
AreOther keeps (c ∷ cs) = (keeps c ≡ false) × AreOther keeps cs

-- a run of others is as long as it can be: no other one follows
abbrev pub EndsRun : List TextPart → Type 0
EndsRun (other c cs ∷ ps) = ⊥
EndsRun ps = ⊤

abbrev pub AreParts : (ℕ → Bool) → List TextPart → Type 0
AreParts keeps [] = ⊤
AreParts keeps (kept c ∷ ps) = (keeps c ≡ true) × AreParts keeps ps
AreParts keeps (other c cs ∷ ps) = AreOther keeps (c ∷ cs) × EndsRun ps × AreParts keeps ps

-- ds is cs with each longest run of characters that aren't kept as one hyphen
abbrev pub Hyphens : (ℕ → Bool) → List ℕ → List ℕ → Type 0
Hyphens keeps cs ds = (ps : List TextPart) × AreParts keeps ps ×
    (cs ≡ concat (map characters_of ps)) × (ds ≡ concat (map shown_of ps))

abbrev pub AreHyphens : List ℕ → Type 0
AreHyphens [] = ⊤
AreHyphens (c ∷ cs) = ((c == 45) ≡ true) × AreHyphens cs

abbrev pub StartsOther : List ℕ → Type 0
StartsOther [] = ⊤
StartsOther (c ∷ cs) = (c == 45) ≡ false

abbrev pub EndsOther : List ℕ → Type 0
EndsOther [] = ⊤
EndsOther (c ∷ []) = (c == 45) ≡ false
EndsOther (c ∷ (d ∷ cs)) = EndsOther (d ∷ cs)

-- cut is ds without the hyphens at both ends
abbrev pub CutsHyphens : List ℕ → List ℕ → Type 0
CutsHyphens ds cut = (before : List ℕ) × (after : List ℕ) × (ds ≡ before ++ (cut ++ after)) ×
    AreHyphens before × AreHyphens after × StartsOther cut × EndsOther cut

-- t is the slug of s
abbrev pub IsSlugOf : Mode → Text → Text → Type 0
IsSlugOf mode s t = (ds : List ℕ) × (cut : List ℕ) × Hyphens (keeps mode) (chars (trim s)) ds ×
    CutsHyphens ds cut × (t ≡ map to_ascii_lowercase (encode_utf8_all cut))

-- a to z, 0 to 9 and the hyphen
abbrev pub is_slug_letter : ℕ → Bool
is_slug_letter c = (nat_le 97 c && nat_le c 122) || (nat_le 48 c && nat_le c 57) || c == 45

abbrev pub AreSlugLetters : List ℕ → Type 0
AreSlugLetters [] = ⊤
AreSlugLetters (c ∷ cs) = (is_slug_letter c ≡ true) × AreSlugLetters cs

-- no two hyphens side by side
abbrev pub AreSingle : List ℕ → Type 0
AreSingle [] = ⊤
AreSingle (c ∷ []) = ⊤
AreSingle (c ∷ (d ∷ cs)) = (((c == 45) && (d == 45)) ≡ false) × AreSingle (d ∷ cs)

-- letters and single inner hyphens
pub record IsSlug (t : Text) : Type 0 where
  pub letters : AreSlugLetters t
  pub starts : StartsOther t
  pub ends : EndsOther t
  pub single : AreSingle t

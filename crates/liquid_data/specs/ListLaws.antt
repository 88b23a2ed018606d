-- Laws of records from a JSON list.
--     ListsAreRead      a list of objects, with any white space between its signs, is read as these
--                     objects, one after another, and ends
--     MapsAreObjects      the JSON of a map is one object: its braces end where it ends
use Rattle.std.specs.Prelude.{◌≡◌, ⊤, IsTrue, ℕ, zero, suc, ◌≤◌, true, List, ◌∷◌, ◌++◌, Some}
use Rattle.std.specs.Char.{is_ascii_whitespace}
use Rattle.std.specs.List.{AllByRecursion}
use Rattle.liquid_json.specs.JsonTexts.{json_text}
use Rattle.liquid_model.specs.Data.{Datum, nil, truth, number, text, array, object, Items, no_items}
use Rattle.liquid_model.specs.Data.{item, Pairs, no_pairs, pair}
use Rattle.liquid_model.specs.Texts.{Text}
use Rattle.liquid_model.specs.Whole.{fits}
use Rattle.liquid_data.specs.Braces.{after_object}
use Rattle.liquid_data.specs.Lists.{ListStep, list_end, list_step_at, one_object}
use Rattle.liquid_data.specs.declared.braces.Braces.TheVariants.{Between}
use Rattle.liquid_data.specs.declared.list_objects.Place.TheVariants.{Front, Within}

abbrev pub IsWhiteSpace : Text → Type 0
IsWhiteSpace = AllByRecursion (λ b. is_ascii_whitespace b ≡ true)

-- the text after an opening brace up to the closing one: what follows it isn't looked at
abbrev pub IsRestOfObject : Text → Type 0
IsRestOfObject inside = (more : Text) → after_object (Between 0) (inside ++ more) ≡ Some more

-- an object is next after the list's `[`, and after each comma; and `]` ends the list
pub record ListsAreRead : Type 0 where
  pub first : (ws us inside more : Text) → IsWhiteSpace ws → IsWhiteSpace us →
      IsRestOfObject inside → list_step_at Front (ws ++ 91 ∷ (us ++ 123 ∷ (inside ++ more))) ≡
      one_object (inside ++ more) more
  pub next : (ws us inside more : Text) → IsWhiteSpace ws → IsWhiteSpace us →
      IsRestOfObject inside → list_step_at Within (ws ++ 44 ∷ (us ++ 123 ∷ (inside ++ more))) ≡
      one_object (inside ++ more) more
  pub last : (ws us : Text) → IsWhiteSpace ws → IsWhiteSpace us →
      list_step_at Within (ws ++ 93 ∷ us) ≡ list_end
  pub empty : (ws us vs : Text) → IsWhiteSpace ws → IsWhiteSpace us → IsWhiteSpace vs →
      list_step_at Front (ws ++ 91 ∷ (us ++ 93 ∷ vs)) ≡ list_end

-- numbers are within 64 bits, and at most n maps stand in one another
abbrev mutual
  pub FitsInList : ℕ → Datum → Type 0
  FitsInList n nil = ⊤
  FitsInList n (truth b) = ⊤
  FitsInList n (number z) = IsTrue (fits z)
  FitsInList n (text s) = ⊤
  FitsInList n (array ds) = ItemsFitInList n ds
  FitsInList zero (object ms) = ⊥
  FitsInList (suc n) (object ms) = PairsFitInList n ms

  pub ItemsFitInList : ℕ → Items → Type 0
  ItemsFitInList n no_items = ⊤
  ItemsFitInList n (item d ds) = FitsInList n d × ItemsFitInList n ds

  pub PairsFitInList : ℕ → Pairs → Type 0
  PairsFitInList n no_pairs = ⊤
  PairsFitInList n (pair k d ms) = FitsInList n d × PairsFitInList n ms

abbrev pub MapsAreObjects : Type 0
MapsAreObjects = (n : ℕ) (ms : Pairs) → n ≤ 18446744073709551615 → PairsFitInList n ms →
    (inside : Text) × (json_text (object ms) ≡ 123 ∷ inside) × IsRestOfObject inside

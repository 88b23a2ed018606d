-- What is built of the values that tokens have at their front.
use Rattle.std.specs.Prelude.{◌≡◌, ℕ, List, length, Option, Some, Result, Ok}
use Rattle.json.specs.Token.{Token}
use Rattle.liquid_model.specs.Data.{Datum, Items, Pairs, no_pairs}
use Rattle.liquid_model.specs.Lists.{list_of}
use Rattle.liquid_model.specs.Texts.{Text}
use Rattle.liquid_model.specs.declared.error.ErrorKind.{ErrorKind}
use Rattle.liquid_model.specs.Uses.{Use, Fields, uncounted, Alike, Pairwise, PairwiseUpTo}
use Rattle.liquid_model.specs.Projected.{pairs_wanted}
use Rattle.liquid_model.specs.Skipping.{AlikeKeys}
use Rattle.liquid_json.specs.Under.{Under, ItemsUnder, KeysUnder}
use Rattle.liquid_json.specs.inside.Tokens.{datum_at, list_items_at, pairs_at}
use Rattle.liquid_json.specs.declared.tokens.Numbers.TheVariants.{Integers}

-- d is alike with the value that stands in front of the rest, and is under it
abbrev pub IsPlanned : Use → ℕ → List Token → Datum → List Token → Type 0
IsPlanned u depth ts d rest = (c : Datum) × (datum_at Integers depth ts ≡ Some (c, rest)) ×
    Alike u (Some c) (Some d) × Under (Some c) (Some d)

abbrev pub ArePlanned : Use → ℕ → List Token → Items → List Token → Type 0
ArePlanned u depth ts ds rest = (cs : Items) × (list_items_at Integers depth (length ts) ts ≡
    Some (cs, rest)) ×
    Pairwise (λ c d. Alike u (Some c) (Some d)) (list_of cs) (list_of ds) ×
    ItemsUnder (list_of cs) (list_of ds)

-- the same of the first n items, or of all
abbrev pub AreFirstItems : Option ℕ → Use → ℕ → List Token → Items → List Token → Type 0
AreFirstItems n u depth ts ds rest = (cs : Items) × (list_items_at Integers depth (length ts) ts ≡
    Some (cs, rest)) ×
    PairwiseUpTo n (λ c d. Alike u (Some c) (Some d)) (list_of cs) (list_of ds) ×
    ItemsUnder (list_of cs) (list_of ds)

abbrev pub PairsPlanned : Fields → ℕ → List Token → Pairs → List Token → Type 0
PairsPlanned members depth ts ps rest = (qs : Pairs) ×
    (pairs_at Integers depth no_pairs (length ts) ts ≡ Some (qs, rest)) ×
    AlikeKeys (pairs_wanted members uncounted) qs ps × KeysUnder qs ps

-- the wanted data are these, or others: under each name both are alike in what U asks of it, and
-- what was read is under what is wanted
abbrev pub IsReadData : (Text → Use) → Result Pairs ErrorKind → Pairs → Type 0
IsReadData U wanted qs = (ps : Pairs) × (wanted ≡ Ok ps) × AlikeKeys U ps qs × KeysUnder ps qs

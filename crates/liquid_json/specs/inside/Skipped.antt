-- What stands at the front of tokens, whatever its values are.
use Rattle.std.specs.Prelude.{◌≡◌, ℕ, List, length, Some}
use Rattle.json.specs.Token.{Token}
use Rattle.liquid_model.specs.Data.{Datum, Items, Pairs}
use Rattle.liquid_json.specs.inside.Tokens.{datum_at, list_items_at, pairs_at}
use Rattle.liquid_json.specs.declared.tokens.Numbers.TheVariants.{Integers}

-- a value stands in front of the rest; the items of a list; the pairs of a map, which go into those
-- that were found
abbrev pub IsSkippedValue : ℕ → List Token → List Token → Type 0
IsSkippedValue depth ts rest = (d : Datum) × (datum_at Integers depth ts ≡ Some (d, rest))

abbrev pub IsItems : ℕ → List Token → List Token → Type 0
IsItems depth ts rest =
    (ds : Items) × (list_items_at Integers depth (length ts) ts ≡ Some (ds, rest))

abbrev pub IsPairs : ℕ → List Token → List Token → Type 0
IsPairs depth ts rest = (found : Pairs) → (ps : Pairs) ×
    (pairs_at Integers depth found (length ts) ts ≡ Some (ps, rest))

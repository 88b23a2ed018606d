-- The data that tokens of JSON give.
use Rattle.std.specs.Prelude.{ℕ, List, Option, Some, None, option_map, option_and_then}
use Rattle.liquid_model.specs.Data.{Datum, nil, truth, number, text, array, object, Items, no_items}
use Rattle.liquid_model.specs.Data.{item, Pairs, no_pairs, put}
use Rattle.json.specs.Token.{Token}
use Rattle.json.specs.Json as json
use Rattle.serde_json.specs.Read.{converted}
use Rattle.liquid_json.specs.AnyNumbers.{number_or_text}
use Rattle.liquid_json.specs.Json.{integer_of_json_number}
use Rattle.liquid_json.specs.declared.tokens.Numbers.{Numbers}
use Rattle.liquid_json.specs.declared.tokens.Numbers.TheVariants.{Integers, All}

-- the data of a number's spelling
abbrev pub number_datum : Numbers → List ℕ → Option Datum
number_datum Integers s = option_map number (integer_of_json_number s)
number_datum All s = Some (number_or_text s (integer_of_json_number s))

module _ (numbers : Numbers) where
  -- The pairs go in one after another, so the last value of a key stays.
  abbrev mutual
    pub datum_of : json.Json → Option Datum
    datum_of json.null = Some nil
    datum_of (json.boolean b) = Some (truth b)
    datum_of (json.number s) = number_datum numbers s
    datum_of (json.string s) = Some (text s)
    datum_of (json.array js) = option_map array (token_items js)
    datum_of (json.object ms) = option_map object (token_pairs ms no_pairs)

    pub token_items : json.Items → Option Items
    token_items json.no_items = Some no_items
    token_items (json.item j js) = option_and_then (λ d.
        option_map (item d) (token_items js)) (datum_of j)

    pub token_pairs : json.Members → Pairs → Option Pairs
    token_pairs json.no_members found = Some found
    token_pairs (json.member k j ms) found = option_and_then (λ d. token_pairs ms (put k d found))
        (datum_of j)

  -- the value of a token that is a value by itself
  abbrev pub scalar_of : Token → Option Datum
  scalar_of (Token.string s) = Some (text s)
  scalar_of (Token.number s) = number_datum numbers s
  scalar_of (Token.boolean b) = Some (truth b)
  scalar_of Token.null = Some nil
  scalar_of _ = None

  -- what stands at the front of the tokens, and the tokens after it
  abbrev pub datum_at : ℕ → List Token → Option (Datum × List Token)
  datum_at depth ts = converted datum_of (json.value depth ts)

  abbrev pub list_items_at : ℕ → ℕ → List Token → Option (Items × List Token)
  list_items_at depth n ts = converted token_items (json.items (json.value depth) n ts)

  abbrev pub pairs_at : ℕ → Pairs → ℕ → List Token → Option (Pairs × List Token)
  pairs_at depth found n ts =
      converted (λ ms. token_pairs ms found) (json.members (json.value depth) n ts)

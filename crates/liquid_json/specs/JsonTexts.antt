-- Values as texts of JSON.
use Rattle.std.specs.Prelude.{List, [], ◌∷◌, ◌++◌}
use Rattle.std.specs.Fmt.{signed_decimal}
use Rattle.json.specs.Print.{print}
use Rattle.json.specs.Token.{Token}
use Rattle.liquid_model.specs.Data.{Datum, nil, truth, number, text, array, object, Items, no_items}
use Rattle.liquid_model.specs.Data.{item, Pairs, no_pairs, pair}
use Rattle.liquid_model.specs.Texts.{Text}

-- the tokens of a value; those of items and pairs have the closing bracket at their end
abbrev mutual
  pub json_tokens : Datum → List Token
  json_tokens nil = Token.null ∷ []
  json_tokens (truth b) = Token.boolean b ∷ []
  json_tokens (number z) = Token.number (signed_decimal z) ∷ []
  json_tokens (text s) = Token.string s ∷ []
  json_tokens (array ds) = Token.begin_array ∷ items_tokens ds
  json_tokens (object ms) = Token.begin_object ∷ pairs_tokens ms

  pub items_tokens : Items → List Token
  items_tokens no_items = Token.end_array ∷ []
  items_tokens (item d ds) = json_tokens d ++ items_tokens ds

  pub pairs_tokens : Pairs → List Token
  pairs_tokens no_pairs = Token.end_object ∷ []
  pairs_tokens (pair k d ms) = Token.key k ∷ (json_tokens d ++ pairs_tokens ms)

-- the tokens with commas and colons between them, and nothing else
abbrev pub json_text : Datum → Text
json_text d = print (json_tokens d)

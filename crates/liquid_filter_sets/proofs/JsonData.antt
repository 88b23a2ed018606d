-- A value as data of JSON, with the same tokens.
use Rattle.std.proofs.Common.{◌≡◌, ℤ, pos, negsuc, ◌∷◌, [], ◌++◌, refl, ap, ap₂}
use Rattle.std.specs.Fmt.{signed_decimal}
use Rattle.json.specs.Token.{Token}
use Rattle.json.specs.Tree as tree
use Rattle.serde_json.specs.Data as json
use Rattle.serde_json.specs.Find.{of_integer}
use Rattle.serde_json.specs.Written.{outline, items_outline, members_outline, number_text}
use Rattle.liquid_model.specs.Data.{Datum, nil, truth, number, text, array, object, Items, no_items, item, Pairs, no_pairs, pair}
use Rattle.liquid_json.specs.JsonTexts.{json_tokens, items_tokens, pairs_tokens}

abbrev mutual
  pub data_of : Datum → json.Data
  data_of nil = json.null
  data_of (truth b) = json.boolean b
  data_of (number z) = json.number (of_integer z)
  data_of (text s) = json.string s
  data_of (array ds) = json.array (items_of ds)
  data_of (object ms) = json.object (members_of ms)

  pub items_of : Items → json.Items
  items_of no_items = json.no_items
  items_of (item d ds) = json.item (data_of d) (items_of ds)

  pub members_of : Pairs → json.Members
  members_of no_pairs = json.no_members
  members_of (pair k d ms) = json.member k (data_of d) (members_of ms)

number_tokens : (z : ℤ) → signed_decimal z ≡ number_text (of_integer z)
number_tokens (pos n) = refl
number_tokens (negsuc n) = refl

mutual
  pub value_tokens : (d : Datum) → json_tokens d ≡ tree.json_tokens (outline (data_of d))
  value_tokens nil = refl
  value_tokens (truth b) = refl
  value_tokens (number z) = ap (λ s. Token.number s ∷ []) (number_tokens z)
  value_tokens (text s) = refl
  value_tokens (array ds) = ap (λ ts. Token.begin_array ∷ ts) (all_tokens ds)
  value_tokens (object ms) = ap (λ ts. Token.begin_object ∷ ts) (member_tokens ms)

  all_tokens : (ds : Items) → items_tokens ds ≡ tree.items_tokens (items_outline (items_of ds))
  all_tokens no_items = refl
  all_tokens (item d ds) = ap₂ (λ s t. s ++ t) (value_tokens d) (all_tokens ds)

  member_tokens : (ms : Pairs) → pairs_tokens ms ≡ tree.members_tokens (members_outline (members_of ms))
  member_tokens no_pairs = refl
  member_tokens (pair k d ms) = ap₂ (λ s t. Token.key k ∷ (s ++ t)) (value_tokens d) (member_tokens ms)

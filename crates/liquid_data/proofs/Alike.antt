-- Data with any numbers beside the data whose numbers are all whole.
use Rattle.std.proofs.Common.{◌≡◌, ℕ, ℤ, List, [], ◌∷◌, Option, Some, None, option_map, option_and_then, Result, Ok, Err, refl, sym, ap, ◌∙◌}
use Rattle.std.specs.Prelude.{Bool, true, false, ◌&&◌, is_some, IsOk}
use Rattle.json.specs.Token.{Token}
use Rattle.json.specs.Json as json
use Rattle.json.specs.Lex.{tokens}
use Rattle.liquid_model.specs.Data.{Datum, number, array, object, Items, item, Pairs, no_pairs, put}
use Rattle.liquid_model.specs.declared.error.ErrorKind.{ErrorKind}
use Rattle.liquid_model.specs.declared.error.ErrorKind.TheVariants.{InvalidInput, Float}
use Rattle.serde_json.specs.Data as tree
use Rattle.serde_json.specs.Find.{as_i64}
use Rattle.serde_json.specs.Read.{of_json, of_items, of_members, number_of, converted, max_depth}
use Rattle.liquid_json.specs.Json as plain
use Rattle.liquid_json.specs.Json.{integer_of_json_number}
use Rattle.liquid_json.specs.inside.Tokens as tokened
use Rattle.liquid_json.specs.declared.tokens.Numbers.TheVariants.{Integers}
use Rattle.liquid_json.proofs.Plain.{whole_plain}
use Rattle.liquid_json.specs.AnyNumbers.{number_or_text, decimals_datum, decimals_items, decimals_pairs, json_of, decimals_read, spelled_value}
use Rattle.liquid_data.specs.Decimals.{decimals_object, spelled_data}
use Rattle.liquid_data.specs.Laws.{is_whole, are_whole, have_whole, WholeNumbersStay, RefusedAlike, FloatsAreRead}

-- ---- a text that is no object

no_object : {A : Type 0} (f : A → tree.Data) → ((a : A) → plain.parsed_object (f a) ≡ Err InvalidInput) → (o : Option A) → plain.object_read (option_map f o) ≡ Err InvalidInput
no_object f h None = refl
no_object f h (Some a) = h a

refused_at : (o : Option json.Json) (kind : ErrorKind) → decimals_object o ≡ Err kind → plain.object_read (option_and_then of_json o) ≡ Err kind
refused_at None kind e = e
refused_at (Some json.null) kind e = e
refused_at (Some (json.boolean b)) kind e = e
refused_at (Some (json.number s)) kind e = no_object tree.number (λ n. refl) (number_of s) ∙ e
refused_at (Some (json.string s)) kind e = e
refused_at (Some (json.array js)) kind e = no_object tree.array (λ ds. refl) (of_items js) ∙ e
refused_at (Some (json.object ms)) kind e = absurd (cc)

pub refused_alike : RefusedAlike
refused_alike source kind e = refused_at (json_of source) kind e

value_refused_at : (o : Option json.Json) (kind : ErrorKind) → decimals_read o ≡ Err kind → plain.value_if_read (option_and_then of_json o) ≡ Err kind
value_refused_at None kind e = e
value_refused_at (Some j) kind e = absurd (cc)

-- a text that is no value with any numbers is none with whole ones
pub value_refused_alike : (source : List ℕ) (kind : ErrorKind) → spelled_value source ≡ Err kind → plain.value_in source ≡ Err kind
value_refused_alike source kind e = value_refused_at (json_of source) kind e

apart : (r : Result Pairs ErrorKind) → r ≡ Err InvalidInput → r ≡ Err Float → ⊥
apart r is e = absurd cc

read_at : (o : Option json.Json) → plain.object_read (option_and_then of_json o) ≡ Err Float → IsOk (decimals_object o)
read_at None e = absurd (cc)
read_at (Some json.null) e = absurd (cc)
read_at (Some (json.boolean b)) e = absurd (cc)
read_at (Some (json.number s)) e = absurd (apart _ (no_object tree.number (λ n. refl) (number_of s)) e)
read_at (Some (json.string s)) e = absurd (cc)
read_at (Some (json.array js)) e = absurd (apart _ (no_object tree.array (λ ds. refl) (of_items js)) e)
read_at (Some (json.object ms)) e = refl

pub floats_are_read : FloatsAreRead
floats_are_read source e = read_at (json_of source) e

-- ---- whole numbers alone

first_of : (a b : Bool) → (a && b) ≡ true → (a ≡ true) × (b ≡ true)
first_of true b e = (refl, e)
first_of false b e = absurd (cc)

number_same : (s : List ℕ) (o : Option ℤ) → is_some o ≡ true → option_map number o ≡ Some (number_or_text s o)
number_same s None e = absurd (cc)
number_same s (Some z) e = refl

mutual
  datum_same : (j : json.Json) → is_whole j ≡ true → tokened.datum_of Integers j ≡ Some (decimals_datum j)
  datum_same json.null e = refl
  datum_same (json.boolean b) e = refl
  datum_same (json.number s) e = number_same s (integer_of_json_number s) e
  datum_same (json.string s) e = refl
  datum_same (json.array js) e = ap (option_map array) (items_same js e)
  datum_same (json.object ms) e = ap (option_map object) (pairs_same ms no_pairs e)

  items_same : (js : json.Items) → are_whole js ≡ true → tokened.token_items Integers js ≡ Some (decimals_items js)
  items_same json.no_items e = refl
  items_same (json.item j js) e = let both = first_of (is_whole j) (are_whole js) e in rw (datum_same j both.0, items_same js both.1)

  pairs_same : (ms : json.Members) (found : Pairs) → have_whole ms ≡ true → tokened.token_pairs Integers ms found ≡ Some (decimals_pairs found ms)
  pairs_same json.no_members found e = refl
  pairs_same (json.member k j ms) found e =
      let both = first_of (is_whole j) (have_whole ms) e in
      ap (option_and_then (λ d. tokened.token_pairs Integers ms (put k d found))) (datum_same j both.0) ∙ pairs_same ms (put k (decimals_datum j) found) both.1

last : (o : Option (json.Json × List Token)) (j : json.Json) → option_and_then (λ p. json.if_last p.0 p.1) o ≡ Some j → o ≡ Some (j, [])
last None j e = absurd (cc)
last (Some (k, [])) j e = ap (option_map {U = json.Json × List Token} (λ x. (x, []))) e
last (Some (k, t ∷ ts)) j e = absurd (cc)

object_same : (source : List ℕ) (ms : json.Members) → json_of source ≡ Some (json.object ms) → have_whole ms ≡ true → plain.data_of source ≡ Ok (decimals_pairs no_pairs ms)
object_same source ms is e =
    let all = last (json.value max_depth (tokens source)) (json.object ms) is in
    whole_plain (json.value max_depth (tokens source)) (decimals_pairs no_pairs ms) (ap (converted (tokened.datum_of Integers)) all ∙ ap (option_map {U = Datum × List Token} (λ d. (d, []))) (datum_same (json.object ms) e))

same_at : (source : List ℕ) (j : json.Json) → json_of source ≡ Some j → is_whole j ≡ true → decimals_object (Some j) ≡ plain.data_of source
same_at source json.null is e = sym (ap (λ o. plain.object_read (option_and_then of_json o)) is)
same_at source (json.boolean b) is e = sym (ap (λ o. plain.object_read (option_and_then of_json o)) is)
same_at source (json.number s) is e = sym (ap (λ o. plain.object_read (option_and_then of_json o)) is ∙ no_object tree.number (λ n. refl) (number_of s))
same_at source (json.string s) is e = sym (ap (λ o. plain.object_read (option_and_then of_json o)) is)
same_at source (json.array js) is e = sym (ap (λ o. plain.object_read (option_and_then of_json o)) is ∙ no_object tree.array (λ ds. refl) (of_items js))
same_at source (json.object ms) is e = sym (object_same source ms is e)

pub whole_numbers_stay : WholeNumbersStay
whole_numbers_stay source j is e = ap decimals_object is ∙ same_at source j is e

-- Values with any numbers, from all tokens of a text.
use Rattle.std.proofs.Common.{◌≡◌, List, ℕ, [], ◌∷◌, Option, Some, None, option_map, option_and_then, Result, Ok, Err, refl, sym, ap, ◌∙◌}
use Rattle.json.specs.Token.{Token}
use Rattle.json.specs.Json as json
use Rattle.json.specs.Lex as lex
use Rattle.serde_json.specs.Read.{converted, max_depth}
use Rattle.liquid_model.specs.Data.{Datum, array, object, item, Pairs, no_pairs, put}
use Rattle.liquid_model.specs.declared.error.ErrorKind.{ErrorKind}
use Rattle.liquid_model.specs.declared.error.ErrorKind.TheVariants.{InvalidInput}
use Rattle.liquid_json.specs.AnyNumbers.{decimals_datum, decimals_items, decimals_pairs, decimals_read, spelled_value}
use Rattle.liquid_json.specs.inside.Tokens.{datum_of, token_items, token_pairs, datum_at}
use Rattle.liquid_json.specs.declared.tokens.Numbers.TheVariants.{All}
use Rattle.liquid_json.proofs.Turns.{converted_some}

mutual
  datum_read : (j : json.Json) → datum_of All j ≡ Some (decimals_datum j)
  datum_read json.null = refl
  datum_read (json.boolean b) = refl
  datum_read (json.number s) = refl
  datum_read (json.string s) = refl
  datum_read (json.array js) = ap (option_map array) (items_read js)
  datum_read (json.object ms) = ap (option_map object) (pairs_read ms no_pairs)

  items_read : (js : json.Items) → token_items All js ≡ Some (decimals_items js)
  items_read json.no_items = refl
  items_read (json.item j js) = rw (datum_read j, items_read js)

  pairs_read : (ms : json.Members) (found : Pairs) → token_pairs All ms found ≡ Some (decimals_pairs found ms)
  pairs_read json.no_members found = refl
  pairs_read (json.member k j ms) found =
      ap (option_and_then (λ d. token_pairs All ms (put k d found))) (datum_read j) ∙ pairs_read ms (put k (decimals_datum j) found)

abbrev or_else : Datum → Option Datum → Datum
or_else d None = d
or_else d (Some e) = e

abbrev whole : Option (json.Json × List Token) → Result Datum ErrorKind
whole o = decimals_read (option_and_then (λ p. json.if_last p.0 p.1) o)

-- a value that takes all tokens, or some of them
pub value_read : (source : List ℕ) (d : Datum) → datum_at All max_depth (lex.tokens source) ≡ Some (d, []) → spelled_value source ≡ Ok d
value_read source d e =
    let j = converted_some (datum_of All) (json.value max_depth (lex.tokens source)) d [] e in
    ap whole j.1 ∙ ap (λ o. Ok (or_else d o)) (sym (datum_read j.0) ∙ j.2)

pub value_before : (source : List ℕ) (d : Datum) (t : Token) (r : List Token) → datum_at All max_depth (lex.tokens source) ≡ Some (d, t ∷ r) → spelled_value source ≡ Err InvalidInput
value_before source d t r e =
    let j = converted_some (datum_of All) (json.value max_depth (lex.tokens source)) d (t ∷ r) e in
    ap whole j.1

no_json : (o : Option (json.Json × List Token)) → converted (datum_of All) o ≡ None → o ≡ None
no_json None e = refl
no_json (Some p) e =
    let some = sym (ap (option_map {U = Datum × List Token} (λ d. (d, p.1))) (datum_read p.0)) ∙ e in
    absurd cc

-- none at all
pub value_refused : (source : List ℕ) → datum_at All max_depth (lex.tokens source) ≡ None → spelled_value source ≡ Err InvalidInput
value_refused source e = ap whole (no_json (json.value max_depth (lex.tokens source)) e)

-- Tokens that are values by themselves.
use Rattle.std.proofs.Common.{◌≡◌, ℕ, List, ◌∷◌, Option, Some, None, option_map, refl, ap, ◌∙◌}
use Rattle.std.specs.Prelude.{IsSome}
use Rattle.json.specs.Token.{Token}
use Rattle.json.specs.Reads.{token_of}
use Rattle.json.specs.declared.token.Token.{Token as ReadToken}
use Rattle.json.specs.declared.token.Token.TheVariants as read
use Rattle.json.proofs.Grammar.{value_is}
use Rattle.serde_json.specs.Read.{converted}
use Rattle.liquid_model.specs.Data.{Datum}
use Rattle.liquid_json.specs.inside.Tokens.{datum_of, scalar_of, datum_at}
use Rattle.liquid_json.specs.declared.tokens.Numbers.{Numbers}

module _ (numbers : Numbers) where
  abbrev with_rest : List Token → Option Datum → Option (Datum × List Token)
  with_rest r o = option_map (λ b. (b, r)) o

  -- such a token at the front is the value there
  pub scalar_read : (depth : ℕ) (k : Token) (r : List Token) (d : Datum) → scalar_of numbers k ≡ Some d → datum_at numbers depth (k ∷ r) ≡ Some (d, r)
  scalar_read depth (Token.string s) r d e = ap (converted (datum_of numbers)) (value_is depth _) ∙ ap (with_rest r) e
  scalar_read depth (Token.number s) r d e = ap (converted (datum_of numbers)) (value_is depth _) ∙ ap (with_rest r) e
  scalar_read depth (Token.boolean b) r d e = ap (converted (datum_of numbers)) (value_is depth _) ∙ ap (with_rest r) e
  scalar_read depth Token.null r d e = ap (converted (datum_of numbers)) (value_is depth _) ∙ ap (with_rest r) e
  scalar_read depth Token.begin_object r d e = absurd cc
  scalar_read depth Token.end_object r d e = absurd cc
  scalar_read depth Token.begin_array r d e = absurd cc
  scalar_read depth Token.end_array r d e = absurd cc
  scalar_read depth (Token.key s) r d e = absurd cc
  scalar_read depth Token.bad r d e = absurd cc

  -- a token that is none, and begins no list and no map, is no value
  pub scalar_refused : (depth : ℕ) (k : Token) (r : List Token) → (k ≡ Token.begin_array → ⊥) → (k ≡ Token.begin_object → ⊥) → scalar_of numbers k ≡ None → datum_at numbers depth (k ∷ r) ≡ None
  scalar_refused depth (Token.string s) r a o e = absurd cc
  scalar_refused depth (Token.number s) r a o e = ap (converted (datum_of numbers)) (value_is depth _) ∙ ap (with_rest r) e
  scalar_refused depth (Token.boolean b) r a o e = absurd cc
  scalar_refused depth Token.null r a o e = absurd cc
  scalar_refused depth Token.begin_object r a o e = absurd (o refl)
  scalar_refused depth Token.end_object r a o e = ap (converted (datum_of numbers)) (value_is depth _)
  scalar_refused depth Token.begin_array r a o e = absurd (a refl)
  scalar_refused depth Token.end_array r a o e = ap (converted (datum_of numbers)) (value_is depth _)
  scalar_refused depth (Token.key s) r a o e = ap (converted (datum_of numbers)) (value_is depth _)
  scalar_refused depth Token.bad r a o e = ap (converted (datum_of numbers)) (value_is depth _)

pub some_given : (o : Option Datum) → IsSome o → (d : Datum) × (o ≡ Some d)
some_given (Some d) h = (d, refl)
some_given None h = absurd cc

-- which token it is that begins a list or a map
pub begins_array : (k : ReadToken) → token_of k ≡ Token.begin_array → k ≡ read.BeginArray
begins_array read.BeginObject e = absurd cc
begins_array read.EndObject e = absurd cc
begins_array read.BeginArray e = refl
begins_array read.EndArray e = absurd cc
begins_array (read.Key s) e = absurd cc
begins_array (read.String s) e = absurd cc
begins_array (read.Number s) e = absurd cc
begins_array (read.Bool b) e = absurd cc
begins_array read.Null e = absurd cc
begins_array read.Bad e = absurd cc

pub begins_object : (k : ReadToken) → token_of k ≡ Token.begin_object → k ≡ read.BeginObject
begins_object read.BeginObject e = refl
begins_object read.EndObject e = absurd cc
begins_object read.BeginArray e = absurd cc
begins_object read.EndArray e = absurd cc
begins_object (read.Key s) e = absurd cc
begins_object (read.String s) e = absurd cc
begins_object (read.Number s) e = absurd cc
begins_object (read.Bool b) e = absurd cc
begins_object read.Null e = absurd cc
begins_object read.Bad e = absurd cc

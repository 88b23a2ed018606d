-- What may stand any number of times, one after another, up to the end of a tag's items.
use Rattle.std.specs.Prelude.{ℕ, zero, suc, List, [], ◌∷◌, ◌++◌, length, Bool, cond, Option, Some}
use Rattle.std.specs.Prelude.{None}
use Rattle.std.specs.Option.{option_and_then, option_map}
use Rattle.liquid_lexer.specs.Tokens.{Token}

-- the tokens are these, one after another, and an end after them
module _ {A : Type 0} (One : A → List Token → Type 0) (End : List Token → Type 0) where
  pub data AreRepeated : List A → List Token → Type 0 where
    no_more : {ts : List Token} → End ts → AreRepeated [] ts
    one_more : {x : A} {xs : List A} {ts us : List Token} → One x ts → AreRepeated xs us →
        AreRepeated (x ∷ xs) (ts ++ us)

-- ---- reading

-- one at the front, where no end stands, and what is left is read by `more`
abbrev pub repeats_by : {A : Type 0} → (List Token → Option (List A)) → Bool →
    Option (A × List Token) → Option (List A)
repeats_by more ended front =
    cond ended (Some []) (option_and_then (λ x. option_map (λ xs. x.0 ∷ xs) (more x.1)) front)

module _ {A : Type 0} (one : List Token → Option (A × List Token)) (ends : List Token → Bool) where
  unfoldable pub repeated_at : ℕ → List Token → Option (List A)
  repeated_at zero ts = repeats_by (λ us. None) (ends ts) (one ts)
  repeated_at (suc n) ts = repeats_by (repeated_at n) (ends ts) (one ts)

  unfoldable pub repeated_of : List Token → Option (List A)
  repeated_of ts = repeated_at (length ts) ts

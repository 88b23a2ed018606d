-- Steps over bytes, as steps over characters: where a step leaves each byte from 128 on, it leaves each character that is not ASCII.
use Rattle.std.proofs.Common.{◌≡◌, ℕ, ◌+◌, ◌/◌, ◌%◌, ◌<◌, ◌≤◌, Bool, true, false, cond, ltb, List, [], ◌∷◌, ◌++◌, refl, ap, ◌∙◌, arith, append-nil}
use Rattle.std.proofs.lemmas.Bool.Decides.{nat_tests}
use Rattle.std.proofs.lemmas.Str.{encode_ascii}
use Rattle.std.specs.List.{flat_map}
use lib.Utf8.{encode}

abbrev pub AllHigh : List ℕ → Type 0
AllHigh [] = Unit {0}
AllHigh (b ∷ bs) = (128 ≤ b) × AllHigh bs

high_by_width : (c : ℕ) (s t : Bool) → AllHigh (cond s ((192 + c / 64) ∷ (128 + c % 64) ∷ []) (cond t ((224 + c / 4096) ∷ (128 + c / 64 % 64) ∷ (128 + c % 64) ∷ []) ((240 + c / 262144) ∷ (128 + c / 4096 % 64) ∷ (128 + c / 64 % 64) ∷ (128 + c % 64) ∷ [])))
high_by_width c true t = (omega arith, (omega arith, tt))
high_by_width c false true = (omega arith, (omega arith, (omega arith, tt)))
high_by_width c false false = (omega arith, (omega arith, (omega arith, (omega arith, tt))))

high_at : (c : ℕ) (t : Bool) → ltb c 128 ≡ t → 128 ≤ c → AllHigh (encode c)
unfolding encode
high_at c true e l = absurd (grind (arith, nat_tests))
high_at c false e l = rw e (high_by_width c (ltb c 2048) (ltb c 65536))

-- the bytes of a character that is not ASCII are all from 128 on
pub high_bytes : (c : ℕ) → 128 ≤ c → AllHigh (encode c)
high_bytes c l = high_at c (ltb c 128) refl l

cases_at : {P : Type 0} (c : ℕ) (t : Bool) → ltb c 128 ≡ t → (c < 128 → P) → (128 ≤ c → P) → P
cases_at c true e f g = f (grind (arith, nat_tests))
cases_at c false e f g = g (grind (arith, nat_tests))

-- a character is ASCII or not
pub ascii_or_high : {P : Type 0} (c : ℕ) → (c < 128 → P) → (128 ≤ c → P) → P
ascii_or_high c f g = cases_at c (ltb c 128) refl f g

module _ (f : ℕ → List ℕ) where
  bytes_kept : ((b : ℕ) → 128 ≤ b → f b ≡ b ∷ []) → (bs : List ℕ) → AllHigh bs → flat_map f bs ≡ bs
  bytes_kept h [] k = refl
  bytes_kept h (b ∷ bs) k = ap (λ t. t ++ flat_map f bs) (h b k.0) ∙ ap (λ t. b ∷ t) (bytes_kept h bs k.1)

  -- what a step makes of a character's bytes
  pub high_letter : ((b : ℕ) → 128 ≤ b → f b ≡ b ∷ []) → (c : ℕ) → 128 ≤ c → flat_map f (encode c) ≡ encode c
  high_letter h c l = bytes_kept h (encode c) (high_bytes c l)

  pub ascii_letter : (c : ℕ) → c < 128 → flat_map f (encode c) ≡ f c
  ascii_letter c l = ap (flat_map f) (encode_ascii c l) ∙ append-nil (f c)

-- The written grammar of words, quoted texts and numbers. In each relation bs begins with what is
-- named, and rest follows it.
use Rattle.std.specs.Prelude.{◌≡◌, ℕ, ℤ, ◌⊎◌, List, [], ◌∷◌, ◌++◌, Bool, true, false, not, ◌==◌}
use Rattle.std.specs.Prelude.{◌||◌, ◌&&◌, slice_index, Some}
use Rattle.liquid_model.specs.Whole.{whole_text}
use Rattle.liquid_model.specs.Bytes.{is_white, is_digit, is_letter, in_word, not_quote, dot}
use Rattle.liquid_model.specs.Bytes.{double_quote, single_quote}

-- the test passes at the front
abbrev pub passes : (ℕ → List ℕ → Bool) → List ℕ → Bool
passes t [] = false
passes t (b ∷ bs) = t b bs

-- each byte of the run passes the test, and what follows doesn't
abbrev pub IsRun : (ℕ → List ℕ → Bool) → List ℕ → List ℕ → Type 0
IsRun t [] rest = passes t rest ≡ false
IsRun t (b ∷ bs) rest = (t b (bs ++ rest) ≡ true) × IsRun t bs rest

-- any whitespace, all that stands there
pub record Blank (bs rest : List ℕ) : Type 0 where
  pub blank : List ℕ
  pub joined : bs ≡ blank ++ rest
  pub run : IsRun is_white blank rest

-- a letter or `_`, then letters, digits, `_` and `-`, as far as they go
pub record Word (w bs rest : List ℕ) : Type 0 where
  pub joined : bs ≡ w ++ rest
  pub begins : is_letter (slice_index bs 0) ≡ true
  pub run : IsRun in_word w rest

-- in double or single quotes, without escapes
pub record Quoted (s bs rest : List ℕ) : Type 0 where
  pub quote : ℕ
  pub double_or_single : (quote ≡ double_quote) ⊎ (quote ≡ single_quote)
  pub joined : bs ≡ quote ∷ (s ++ (quote ∷ rest))
  pub run : IsRun (not_quote quote) s (quote ∷ rest)

abbrev pub begins_with : ℕ → List ℕ → Bool
begins_with b [] = false
begins_with b (c ∷ cs) = c == b

-- a digit, a letter or `_`, or a `.` that begins no `..`
abbrev pub continues_number : ℕ → List ℕ → Bool
continues_number b bs = is_digit b bs || (is_letter b || (b == dot && not (begins_with dot bs)))

-- An optional sign and digits, within 64 bits. What follows doesn't make it another thing.
pub record Number (n : ℤ) (bs rest : List ℕ) : Type 0 where
  pub spelling : List ℕ
  pub joined : bs ≡ spelling ++ rest
  pub whole : whole_text spelling ≡ Some n
  pub ends : passes continues_number rest ≡ false

-- What is read at the front of a text, as functions: words, quoted texts and numbers.
use Rattle.std.specs.Prelude.{ℕ, zero, suc, ◌+◌, ℤ, List, [], ◌∷◌, take, drop, Bool}
use Rattle.std.specs.Prelude.{◌==◌, ◌||◌, if◌then◌else◌, slice_index, Option, Some, None}
use Rattle.std.specs.Option.{option_map}
use Rattle.liquid_model.specs.Data.{Datum, text, number}
use Rattle.liquid_model.specs.Whole.{whole_text}
use Rattle.liquid_model.specs.Bytes.{is_white, is_digit, is_letter, in_word, not_quote}
use Rattle.liquid_model.specs.Bytes.{dash, double_quote, plus_sign, single_quote}
use Rattle.liquid_model.specs.Words.{passes, continues_number}

-- a part at the front, and what follows it
abbrev pub Reads : Type 0 → Type 0
Reads A = List ℕ → Option (A × List ℕ)

-- how many bytes pass the test, from the front on
abbrev pub run_len : (ℕ → List ℕ → Bool) → List ℕ → ℕ
run_len t [] = 0
run_len t (b ∷ bs) = if t b bs then suc (run_len t bs) else 0

unfoldable pub past_white : List ℕ → List ℕ
past_white bs = drop (run_len is_white bs) bs

-- what follows the byte, where the text begins with it
abbrev pub past_byte : ℕ → List ℕ → Option (List ℕ)
past_byte b [] = None
past_byte b (c ∷ cs) = if c == b then Some cs else None

unfoldable pub word_at : Reads (List ℕ)
word_at bs = if is_letter (slice_index bs 0) then Some (
  take (run_len in_word bs) bs,
  drop (run_len in_word bs) bs,
) else None

-- up to the quote q, after the one that opens
unfoldable pub until_quote : ℕ → Reads (List ℕ)
until_quote q bs = option_map (λ rest. (take (run_len (not_quote q) bs) bs, rest))
    (past_byte q (drop (run_len (not_quote q) bs) bs))

unfoldable pub quoted_at : Reads (List ℕ)
quoted_at [] = None
quoted_at (q ∷ bs) = if q == double_quote || q == single_quote then until_quote q bs else None

abbrev pub with_sign : ℕ → ℕ → ℕ
with_sign sign zero = 0
with_sign sign (suc n) = sign + suc n

abbrev pub sign_len : List ℕ → ℕ
sign_len [] = 0
sign_len (b ∷ bs) = if b == plus_sign || b == dash then 1 else 0

-- an optional sign and digits; 0 where no number stands
abbrev pub number_len : List ℕ → ℕ
number_len bs = with_sign (sign_len bs) (run_len is_digit (drop (sign_len bs) bs))

abbrev pub number_by : List ℕ → List ℕ → Option (ℤ × List ℕ)
number_by s rest =
    if passes continues_number rest then None else option_map (λ n. (n, rest)) (whole_text s)

unfoldable pub integer_at : Reads ℤ
integer_at bs = number_by (take (number_len bs) bs) (drop (number_len bs) bs)

abbrev pub literal_by : List ℕ → Option (List ℕ × List ℕ) → Option (Datum × List ℕ)
literal_by bs (Some s) = Some (text s.0, s.1)
literal_by bs None = option_map (λ n. (number n.0, n.1)) (integer_at bs)

-- a text in quotes, or a number
unfoldable pub literal_at : Reads Datum
literal_at bs = literal_by bs (quoted_at bs)

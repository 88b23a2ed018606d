-- What is read at the front of a text, as functions: values, and the text before an opener.
use Rattle.std.specs.Prelude.{ℕ, zero, suc, List, [], ◌∷◌, ◌++◌, length, take, drop, ◌-◌}
use Rattle.std.specs.Prelude.{if◌then◌else◌, Option, Some, None}
use Rattle.std.specs.Option.{option_and_then, option_map}
use Rattle.std.specs.List.{suffix_len}
use Rattle.liquid_model.specs.Data.{text}
use Rattle.liquid_core.specs.Expression.{Expression, literal, variable, Steps, no_steps, step}
use Rattle.liquid_model.specs.Bytes.{is_white, plain, close_bracket, dot, open_bracket}
use Rattle.liquid_model.specs.Bytes.{question_mark}
use Rattle.liquid_model.specs.Front.{Reads, run_len, past_white, past_byte, word_at}
use Rattle.liquid_model.specs.Front.{literal_at}
use Rattle.liquid_lexer.specs.Values.{WordKind, name, constant, state, word_kind, dotted}

infixl 10 ◌>>=◌
abbrev pub ◌>>=◌ : {A B : Type 0} → Option A → (A → Option B) → Option B
o >>= f = option_and_then f o

-- what follows the `?`, where one stands after the word w
abbrev pub marked : List ℕ → List ℕ → Option (List ℕ) → List ℕ × List ℕ
marked w rest None = (w, rest)
marked w rest (Some after) = (w ++ question_mark ∷ [], after)

abbrev pub member_name : List ℕ × List ℕ → List ℕ × List ℕ
member_name w = marked w.0 w.1 (past_byte question_mark w.1)

abbrev pub member_step : List ℕ × List ℕ → Expression × List ℕ
member_step m = (literal (text m.0), m.1)

-- a member's name, or nothing
unfoldable pub member_word_at : Reads (List ℕ)
member_word_at bs = option_map member_name (word_at bs)

unfoldable pub member_name_at : List ℕ → Option (Expression × List ℕ)
member_name_at bs = option_map member_step (member_word_at bs)

-- `.` and a member's name, or nothing
abbrev pub member_at : Option (List ℕ) → Option (Expression × List ℕ)
member_at None = None
member_at (Some from) = member_name_at from

module _ (inner : Reads Expression) where
  unfoldable pub index_at : Reads Expression
  index_at bs = do
    x ← inner (past_white bs)
    rest ← past_byte close_bracket (past_white x.1)
    Some (x.0, rest)

  abbrev pub step_by : List ℕ → Option (List ℕ) → Option (Option (Expression × List ℕ))
  step_by bs (Some inside) = option_map Some (index_at inside)
  step_by bs None = Some (member_at (past_byte dot bs))

  -- a step, or none
  unfoldable pub step_at : List ℕ → Option (Option (Expression × List ℕ))
  step_at bs = step_by bs (past_byte open_bracket bs)

  abbrev pub more_steps : Reads Steps → List ℕ → Option (Expression × List ℕ) →
      Option (Steps × List ℕ)
  more_steps more bs None = Some (no_steps, bs)
  more_steps more bs (Some x) = option_map (λ xs. (step x.0 xs.0, xs.1)) (more x.1)

  -- The number bounds the steps. The count of the bytes is always enough.
  unfoldable pub steps_at : ℕ → Reads Steps
  steps_at zero bs = step_at bs >>= more_steps (λ bs. None) bs
  steps_at (suc n) bs = step_at bs >>= more_steps (steps_at n) bs

  -- a value that opens by a word
  abbrev pub word_value : List ℕ → List ℕ → WordKind → Option (Expression × List ℕ)
  word_value w rest name = option_map (λ steps. (variable w steps.0, steps.1))
      (steps_at (length rest) rest)
  word_value w rest (constant v) = if dotted rest then None else Some (literal v, rest)
  word_value w rest state = None

  abbrev pub value_by : List ℕ → Option (List ℕ × List ℕ) → Option (Expression × List ℕ)
  value_by bs (Some w) = word_value w.0 w.1 (word_kind w.0)
  value_by bs None = option_map (λ v. (literal v.0, v.1)) (literal_at bs)

-- what may stand between brackets, of which no more than the number nest
unfoldable pub inner_of : ℕ → Reads Expression
inner_of zero bs = None
inner_of (suc depth) bs = value_by (inner_of depth) bs (word_at bs)

-- the brackets nested no deeper than the number
unfoldable pub expression_at : ℕ → Reads Expression
expression_at depth bs = value_by (inner_of depth) bs (word_at bs)

-- the text up to the leftmost opener
abbrev pub text_at : List ℕ → List ℕ × List ℕ
text_at bs = (take (run_len plain bs) bs, drop (run_len plain bs) bs)

-- without the whitespace at the end
abbrev pub without_trailing_white : List ℕ → List ℕ
without_trailing_white bs = take (length bs - suffix_len (λ b. is_white b []) bs) bs

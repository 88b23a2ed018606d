-- Paths of properties: a word followed by any of `.word` and `[literal]`, where words, quoted texts
-- and numbers are those of a source.
use Rattle.std.specs.Prelude.{ℕ, zero, suc, List, [], ◌∷◌, ◌++◌, length, Option, Some, None}
use Rattle.std.specs.Option.{option_and_then, option_map}
use Rattle.liquid_model.specs.Data.{Datum, text}
use Rattle.liquid_model.specs.Texts.{Text}
use Rattle.liquid_model.specs.Front.{literal_at, past_byte, word_at, Reads}

-- the word after a `.`
unfoldable pub path_member : Reads Datum
path_member s = option_map (λ w. (text w.0, w.1)) (word_at s)

abbrev pub closed : Option (Datum × Text) → Option (Datum × Text)
closed None = None
closed (Some x) = option_map (λ rest. (x.0, rest)) (past_byte 93 x.1)

-- the literal after a `[`, up to its `]`
unfoldable pub bracketed_at : Reads Datum
bracketed_at s = closed (literal_at s)

abbrev pub path_step_by : Option Text → Option Text → Option (Datum × Text)
path_step_by (Some inside) dotted = bracketed_at inside
path_step_by None (Some from) = path_member from
path_step_by None None = None

unfoldable pub path_step : Reads Datum
path_step s = path_step_by (past_byte 91 s) (past_byte 46 s)

-- the steps of a whole text, or none where it has other parts; the number bounds the steps, and the
-- count of the bytes is always enough
unfoldable pub steps_in : ℕ → Text → Option (List Datum)
steps_in n [] = Some []
steps_in zero (b ∷ s) = None
steps_in (suc n) (b ∷ s) = option_and_then (λ x. option_map (λ ds. x.0 ∷ ds) (steps_in n x.1))
    (path_step (b ∷ s))

abbrev pub path_by : Option (Text × Text) → Option (List Datum)
path_by None = None
path_by (Some w) = option_map (λ ds. text w.0 ∷ ds) (steps_in (length w.1) w.1)

unfoldable pub path : Text → Option (List Datum)
path s = path_by (word_at s)

-- the steps that were read, and those of the rest
abbrev pub with_steps : List Datum → Text → Option (List Datum)
with_steps ds s = option_map (λ es. ds ++ es) (steps_in (length s) s)

-- The written grammar of values: literals, and variables with their steps. In each relation bs
-- begins with the value, and rest follows it.
use Rattle.std.specs.Prelude.{◌≡◌, ℕ, suc, ℤ, List, [], ◌∷◌, ◌++◌, Bool, true, false, ◌==◌, ◌||◌}
use Rattle.std.specs.Prelude.{◌&&◌}
use Rattle.std.specs.Prelude.{slice_index, cond, bytes_eq, codes}
use Rattle.liquid_model.specs.Data.{Datum, nil, truth, number, text}
use Rattle.liquid_core.specs.Expression.{Expression, literal, variable, Steps, no_steps, step}
use Rattle.liquid_model.specs.Bytes.{is_letter, close_bracket, dot, open_bracket, question_mark}
use Rattle.liquid_model.specs.Words.{Blank, Word, Quoted, Number, begins_with}

-- what a word is where it opens a value: a variable's name, a literal, or one of the two that are
-- refused
pub data WordKind : Type 0 where
  name : WordKind
  constant : Datum → WordKind
  state : WordKind

unfoldable pub word_kind : List ℕ → WordKind
word_kind w =
    cond (bytes_eq w (codes "nil") || bytes_eq w (codes "null")) (constant nil)
    (cond (bytes_eq w (codes "true")) (constant (truth true))
    (cond (bytes_eq w (codes "false")) (constant (truth false))
    (cond (bytes_eq w (codes "empty") || bytes_eq w (codes "blank")) state name)))

-- a `.` or a `[`, which no literal word is followed by
abbrev pub dotted : List ℕ → Bool
dotted [] = false
dotted (b ∷ bs) = b == dot || b == open_bracket

-- a `.` before a letter, or a `[`
abbrev pub step_begins : List ℕ → Bool
step_begins [] = false
step_begins (b ∷ bs) = b == open_bracket || (b == dot && is_letter (slice_index bs 0))

-- the name of a member: a word, and a `?` that stands right after it
pub data IsMemberName : List ℕ → List ℕ → List ℕ → Type 0 where
  without_mark : {w bs rest : List ℕ} → Word w bs rest → begins_with question_mark rest ≡ false →
      IsMemberName w bs rest
  with_mark : {w bs rest : List ℕ} → Word w bs (question_mark ∷ rest) →
      IsMemberName (w ++ question_mark ∷ []) bs rest

-- brackets nest at most d deep
mutual
  pub data IsValue : ℕ → Expression → List ℕ → List ℕ → Type 0 where
    is_text : {d : ℕ} {s bs rest : List ℕ} → Quoted s bs rest → IsValue d (literal (text s)) bs rest
    is_number : {d : ℕ} {n : ℤ} {bs rest : List ℕ} → Number n bs rest →
        IsValue d (literal (number n)) bs rest
    -- `nil`, `null`, `true`, `false`
    is_constant : {d : ℕ} {w bs rest : List ℕ} {v : Datum} → Word w bs rest → word_kind w ≡
        constant v → dotted rest ≡ false → IsValue d (literal v) bs rest
    is_variable : {d : ℕ} {w bs after rest : List ℕ} {steps : Steps} → Word w bs after →
        word_kind w ≡ name → AreSteps d steps after rest → IsValue d (variable w steps) bs rest

  pub data AreSteps : ℕ → Steps → List ℕ → List ℕ → Type 0 where
    no_step : {d : ℕ} {rest : List ℕ} → step_begins rest ≡ false → AreSteps d no_steps rest rest
    -- `.word` or `.word?`
    is_member : {d : ℕ} {w from after rest : List ℕ} {steps : Steps} → IsMemberName w from after →
        AreSteps d steps after rest → AreSteps d (step (literal (text w)) steps) (dot ∷ from) rest
    -- `[value]`
    is_index : {d : ℕ} {x : Expression} {steps : Steps} {inside from until after rest : List ℕ} →
        Blank inside from → IsValue d x from until → Blank until (close_bracket ∷ after)
        → AreSteps (suc d) steps after rest →
        AreSteps (suc d) (step x steps) (open_bracket ∷ inside) rest

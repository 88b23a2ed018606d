-- The written grammar of paths of properties, over that of words, quoted texts and numbers.
use Rattle.std.specs.Prelude.{ℕ, ℤ, List, [], ◌∷◌}
use Rattle.liquid_model.specs.Data.{Datum, number, text}
use Rattle.liquid_model.specs.Texts.{Text}
use Rattle.liquid_model.specs.Bytes.{close_bracket, dot, open_bracket}
use Rattle.liquid_model.specs.Words.{Number, Quoted, Word}

-- bs begins with a text in quotes or a number, and rest follows it
pub data IsLiteral : Datum → List ℕ → List ℕ → Type 0 where
  is_text : {s bs rest : List ℕ} → Quoted s bs rest → IsLiteral (text s) bs rest
  is_number : {n : ℤ} {bs rest : List ℕ} → Number n bs rest → IsLiteral (number n) bs rest

-- the whole text is any of `.word` and `[literal]`
pub data ArePathSteps : List Datum → Text → Type 0 where
  no_step : ArePathSteps [] []
  -- `.word`
  is_member : {w from rest : List ℕ} {ds : List Datum} → Word w from rest
      → ArePathSteps ds rest → ArePathSteps (text w ∷ ds) (dot ∷ from)
  -- `[literal]`
  is_index : {d : Datum} {from rest : List ℕ} {ds : List Datum}
      → IsLiteral d from (close_bracket ∷ rest)
      → ArePathSteps ds rest → ArePathSteps (d ∷ ds) (open_bracket ∷ from)

-- the whole text is a word, and steps after it
pub data IsPath : List Datum → Text → Type 0 where
  is_path : {w bs rest : List ℕ} {ds : List Datum} → Word w bs rest
      → ArePathSteps ds rest → IsPath (text w ∷ ds) bs

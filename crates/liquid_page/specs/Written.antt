-- What is written of a page: all of it, or a beginning.
use Rattle.std.specs.Prelude.{◌≡◌, ℕ, List, [], ◌++◌, Option, Some, None, Result, ⊤}
use Rattle.std.specs.Io.KnownBytes.{Appends}
use Rattle.liquid_model.specs.Texts.{Text}
use Rattle.liquid_model.specs.declared.error.Error.{Error}
use Rattle.liquid_engine.specs.Performs.{answer_of, unit}
use Rattle.liquid_page_texts.specs.Page.{PageTexts, IsStandardPage, IsStandardText}

-- the page of these texts was written, all of it, and the answer is its end
pub record IsPageWritten (texts : PageTexts) (r : Result (Unit {0}) Error)
    (old new : Option (List ℕ)) :
    Type 0 where
  pub text : Text
  pub page : IsStandardPage texts text (answer_of unit r)
  pub written : Appends old new text

-- what a writer holds now is a beginning of what it held and of this text after that, where the
-- bytes are known
abbrev pub HoldsBeginning : Option (List ℕ) → Option (List ℕ) → Text → Type 0
HoldsBeginning None new text = ⊤
HoldsBeginning (Some xs) None text = ⊥
HoldsBeginning (Some xs) (Some ys) text = (rest : List ℕ) × (ys ++ rest ≡ xs ++ text)

-- what a writer holds now is a beginning of what it held and of the page of these texts after
-- that; or, of a call that ended before there was a page, a beginning of what it held
pub data IsBegun (texts : PageTexts) (old new : Option (List ℕ)) : Type 0 where
  a_page : {text : Text} → IsStandardText texts text → HoldsBeginning old new text →
      IsBegun texts old new
  no_page : HoldsBeginning old new [] → IsBegun texts old new

-- What a filter answers.
use Rattle.std.specs.Prelude.{◌≡◌, Bool, true, false, List, MatchBool, ⊤, Result, Ok, Err}
use Rattle.liquid_model.specs.Answer.{Answers}
use Rattle.liquid_model.specs.Data.{Datum}
use Rattle.liquid_model.specs.ErrorKinds.{is_memory}
use Rattle.liquid_model.specs.declared.error.Error.{Error}
use Rattle.liquid_model.specs.declared.error.ErrorKind.{ErrorKind}

-- what a filter answers to an input and arguments
abbrev pub FilterAnswer : Type 0
FilterAnswer = Datum → List Datum → Result Datum ErrorKind

-- the answer is the wanted value, seen by view, or the wanted kind, whichever that is, unless
-- memory ran out
abbrev pub AnswersOrMemory : {X Y : Type 0} → (X → Y) → Result X Error → Result Y ErrorKind → Type 0
AnswersOrMemory view (Ok x) wanted = wanted ≡ Ok (view x)
AnswersOrMemory view (Err e) wanted = MatchBool (is_memory e.kind) ⊤ (wanted ≡ Err e.kind)

-- the same, and where within holds the kind is one of the meaning's
abbrev pub AnswersIf : Bool → {X Y : Type 0} → (X → Y) → Result X Error → Result Y ErrorKind →
    Type 0
AnswersIf true view result wanted = Answers view result wanted
AnswersIf false view result wanted = AnswersOrMemory view result wanted

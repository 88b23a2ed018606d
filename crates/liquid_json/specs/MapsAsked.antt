-- Data that stand under one name, of which only some is asked for.
use Rattle.std.specs.Prelude.{◌≡◌, Some, Result, Ok, Err}
use Rattle.liquid_model.specs.Answer.{Faulted}
use Rattle.liquid_model.specs.Data.{Pairs, object}
use Rattle.liquid_model.specs.Uses.{Use, Alike}
use Rattle.liquid_model.specs.declared.error.Error.{Error}
use Rattle.liquid_model.specs.declared.error.ErrorKind.{ErrorKind}

-- the wanted data are these, or others: as one map both are alike in what u asks of it
abbrev pub IsAlikeMap : Use → Result Pairs ErrorKind → Pairs → Type 0
IsAlikeMap u wanted qs = (ps : Pairs) × (wanted ≡ Ok ps) × Alike u (Some (object ps))
    (Some (object qs))

-- the answer is alike with the wanted data, or its kind is the wanted one, unless memory ran out
abbrev pub AnswersMapAlike : {X : Type 0} → (X → Pairs) → Use → Result X Error
    → Result Pairs ErrorKind → Type 0
AnswersMapAlike seen u (Ok m) wanted = IsAlikeMap u wanted (seen m)
AnswersMapAlike seen u (Err e) wanted = Faulted e.kind wanted

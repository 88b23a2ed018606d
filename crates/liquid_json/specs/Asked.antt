-- Data of which only some is asked for.
use Rattle.std.specs.Prelude.{◌≡◌, Result, Ok, Err}
use Rattle.liquid_model.specs.Answer.{Faulted}
use Rattle.liquid_model.specs.Data.{Pairs}
use Rattle.liquid_model.specs.Skipping.{AlikeKeys}
use Rattle.liquid_model.specs.Texts.{Text}
use Rattle.liquid_model.specs.Uses.{Use}
use Rattle.liquid_model.specs.declared.error.Error.{Error}
use Rattle.liquid_model.specs.declared.error.ErrorKind.{ErrorKind}

-- the wanted data are these, or others: under each name both are alike in what U asks of it
abbrev pub IsAlikeData : (Text → Use) → Result Pairs ErrorKind → Pairs → Type 0
IsAlikeData U wanted qs = (ps : Pairs) × (wanted ≡ Ok ps) × AlikeKeys U ps qs

-- the answer is alike with the wanted data, or its kind is the wanted one, unless memory ran out
abbrev pub AnswersAlike : {X : Type 0} → (X → Pairs) → (Text → Use) → Result X Error
    → Result Pairs ErrorKind → Type 0
AnswersAlike seen U (Ok m) wanted = IsAlikeData U wanted (seen m)
AnswersAlike seen U (Err e) wanted = Faulted e.kind wanted

-- The data of a file, as far as uses ask for it.
use Rattle.std.specs.Prelude.{◌≡◌, Option, Result, Ok, Err}
use Rattle.liquid_model.specs.Answer.{Faulted}
use Rattle.liquid_model.specs.Data.{Pairs}
use Rattle.liquid_model.specs.Skipping.{AlikeKeys}
use Rattle.liquid_model.specs.Texts.{Text}
use Rattle.liquid_model.specs.Uses.{Use}
use Rattle.liquid_model.specs.declared.error.Error.{Error}
use Rattle.liquid_model.specs.declared.error.ErrorKind.{ErrorKind}
use Rattle.liquid_commands.specs.Inputs.{with_input}

-- qs may stand in place of ps: data that are alike in U stay so where the one gets ps, and the
-- other qs
abbrev pub StandsInFor : (Text → Use) → Option Text → Pairs → Pairs → Type 0
StandsInFor U name ps qs = (before others : Pairs) → AlikeKeys U before others →
    AlikeKeys U (with_input name ps before) (with_input name qs others)

-- the answer may stand in place of the wanted data, or its kind is the wanted one, unless memory
-- ran out
abbrev pub AnswersInput : {X : Type 0} → (X → Pairs) → (Text → Use) → Option Text → Result X Error
    → Result Pairs ErrorKind → Type 0
AnswersInput seen U name (Ok m) wanted = (ps : Pairs) × (wanted ≡ Ok ps) ×
    StandsInFor U name ps (seen m)
AnswersInput seen U name (Err e) wanted = Faulted e.kind wanted

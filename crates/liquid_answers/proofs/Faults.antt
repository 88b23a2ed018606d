-- The kind by which a filter refuses.
use Rattle.std.proofs.Common.{◌≡◌, Bool, true, false, cond, Result, Err, MatchBool, sym, ap, ◌∙◌}
use Rattle.std.specs.Bool.{⊤}
use Rattle.liquid_model.specs.Answer.{Faulted}
use Rattle.liquid_model.specs.Data.{Datum}
use Rattle.liquid_model.specs.ErrorKinds.{IsKindOrMemory, is_memory, is_refusal}
use Rattle.liquid_model.specs.declared.error.ErrorKind.{ErrorKind}
use Rattle.liquid_model.specs.declared.error.ErrorKind.TheVariants.{InvalidInput}
use Rattle.liquid_answers.specs.Tables.{as_fault}

pub faulted_as : (kind reported : ErrorKind) → is_refusal kind ≡ false → IsKindOrMemory kind reported → Faulted {Y = Datum} reported (Err (as_fault kind))
faulted_as kind reported own is = on (Err (as_fault kind)) (ap Err (ap (λ r. cond r InvalidInput kind) own)) (is_memory reported) is
  where
    on : (wanted : Result Datum ErrorKind) → wanted ≡ Err kind → (b : Bool) → MatchBool b ⊤ (kind ≡ reported) → MatchBool b ⊤ ((wanted ≡ Err reported) × (is_refusal reported ≡ false))
    on wanted same true h = tt
    on wanted same false h = (same ∙ ap Err h, sym (ap is_refusal h) ∙ own)

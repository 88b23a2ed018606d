-- The reported fault is the wanted one.
use Rattle.std.proofs.Common.{◌≡◌, Bool, true, false, MatchBool, Result, Err, sym, ap, ◌∙◌}
use Rattle.std.specs.Bool.{⊤}
use Rattle.liquid_model.specs.Answer.{Faulted}
use Rattle.liquid_model.specs.ErrorKinds.{IsKindOrMemory, is_memory, is_refusal}
use Rattle.liquid_model.specs.declared.error.ErrorKind.{ErrorKind}

faulted_at : {Y : Type 0} (b : Bool) (wanted : Result Y ErrorKind) (kind reported : ErrorKind) → MatchBool b ⊤ (kind ≡ reported) → wanted ≡ Err kind → is_refusal kind ≡ false
    → MatchBool b ⊤ ((wanted ≡ Err reported) × (is_refusal reported ≡ false))
faulted_at true wanted kind reported h e r = tt
faulted_at false wanted kind reported h e r = (e ∙ ap Err h, ap is_refusal (sym h) ∙ r)

pub faulted : {Y : Type 0} (wanted : Result Y ErrorKind) (kind reported : ErrorKind) → IsKindOrMemory kind reported → wanted ≡ Err kind → is_refusal kind ≡ false → Faulted reported wanted
faulted wanted kind reported h e r = faulted_at (is_memory reported) wanted kind reported h e r

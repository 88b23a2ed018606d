-- A fault of a wanted kind, unless memory ran out.
use Rattle.std.proofs.Common.{◌≡◌, Bool, true, false, sym, ap, ◌∙◌}
use Rattle.std.specs.Prelude.{MatchBool, ⊤, Result, Err}
use Rattle.liquid_model.specs.Answer.{Faulted}
use Rattle.liquid_model.specs.ErrorKinds.{IsKindOrMemory, is_memory, is_refusal}
use Rattle.liquid_model.specs.declared.error.ErrorKind.{ErrorKind}

at : {Y : Type 0} (b : Bool) (wanted k : ErrorKind) (a : Result Y ErrorKind) → is_refusal wanted ≡ false → a ≡ Err wanted → MatchBool b ⊤ (wanted ≡ k)
    → MatchBool b ⊤ ((a ≡ Err k) × (is_refusal k ≡ false))
at true wanted k a plain e h = tt
at false wanted k a plain e h = (e ∙ ap Err h, sym (ap is_refusal h) ∙ plain)

pub kind_faulted : {Y : Type 0} (wanted k : ErrorKind) (a : Result Y ErrorKind) → is_refusal wanted ≡ false → a ≡ Err wanted → IsKindOrMemory wanted k → Faulted k a
kind_faulted wanted k a plain e h = at (is_memory k) wanted k a plain e h

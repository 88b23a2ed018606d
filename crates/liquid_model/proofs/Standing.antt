-- An answer stands in the relation that holds of it alone.
use Rattle.std.proofs.Common.{◌≡◌, true, false, Bool, List, [], refl, subst}
use Rattle.std.specs.Prelude.{MatchBool, ⊤, Result, Ok, Err}
use Rattle.liquid_model.specs.Answer.{Answers, IsTheOne}
use Rattle.liquid_model.specs.Data.{Datum}
use Rattle.liquid_model.specs.ErrorKinds.{is_memory, is_refusal}
use Rattle.liquid_model.specs.View.{view}
use Rattle.liquid_model.specs.declared.error.Error.{Error}
use Rattle.liquid_model.specs.declared.error.ErrorKind.{ErrorKind}
use Rattle.liquid_model.specs.declared.value.Value.{Value}
use Rattle.liquid_model.specs.Arguments.{Answer}
use Rattle.liquid_model.specs.Satisfies.{Satisfies, WithFirst}

faulted : (R : Answer → Type 0) (a : Answer) (k : ErrorKind) (m : Bool) → R a → MatchBool m ⊤ ((a ≡ Err k) × (is_refusal k ≡ false)) → MatchBool m ⊤ (R (Err k))
faulted R a k true h w = tt
faulted R a k false h w = subst R w.0 h

pub satisfies : (R : Answer → Type 0) (a : Answer) (r : Result Value Error) → IsTheOne R a → Answers view r a → Satisfies R r
satisfies R a (Ok v) one w = subst R w ((one a).1 refl)
satisfies R a (Err e) one w = faulted R a e.kind (is_memory e.kind) ((one a).1 refl) w

-- nothing is said of a call without arguments
unsaid : (m : Bool) → MatchBool m ⊤ (Unit {0})
unsaid true = tt
unsaid false = tt

pub none_given : (R : Datum → List Datum → Answer → Type 0) (r : Result Value Error) → Satisfies (WithFirst R []) r
none_given R (Ok v) = tt
none_given R (Err e) = unsaid (is_memory e.kind)

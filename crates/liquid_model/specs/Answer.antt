-- What a call answers.
use Rattle.std.specs.Prelude.{◌≡◌, ◌↔◌, false, MatchBool, ⊤, Result, Ok, Err, IsOk}
use Rattle.liquid_model.specs.declared.error.Error.{Error}
use Rattle.liquid_model.specs.declared.error.ErrorKind.{ErrorKind}
use Rattle.liquid_model.specs.declared.error.ErrorKind.TheVariants.{Memory}
use Rattle.liquid_model.specs.ErrorKinds.{is_memory, is_refusal}

-- the answer is the wanted one, seen by view, unless memory ran out
abbrev pub IsValueOrMemory : {X Y : Type 0} → (X → Y) → Result X Error → Y → Type 0
IsValueOrMemory view (Ok x) wanted = view x ≡ wanted
IsValueOrMemory view (Err e) wanted = e.kind ≡ Memory

-- memory ran out, or the kind is the wanted answer
abbrev pub Faulted : {Y : Type 0} → ErrorKind → Result Y ErrorKind → Type 0
Faulted kind wanted = MatchBool (is_memory kind) ⊤ ((wanted ≡ Err kind) × (is_refusal kind ≡ false))

-- the answer is the wanted value, seen by view, or the wanted kind, unless memory ran out
abbrev pub Answers : {X Y : Type 0} → (X → Y) → Result X Error → Result Y ErrorKind → Type 0
Answers view (Ok x) wanted = wanted ≡ Ok (view x)
Answers view (Err e) wanted = Faulted e.kind wanted

-- where the wanted answer is no fault, the call answers no fault either: it takes no memory
abbrev pub TakesNoMemory : {X Y E : Type 0} → Result X E → Result Y ErrorKind → Type 0
TakesNoMemory result wanted = IsOk wanted → IsOk result

-- the relation R holds of a, and of nothing else
abbrev pub IsTheOne : {X : Type 0} → (X → Type 0) → X → Type 0
IsTheOne {X} R a = (b : X) → R b ↔ (b ≡ a)

-- The same value, or a fault of the same kind, or of `Memory`.
use Rattle.std.specs.Prelude.{◌≡◌, Result, Ok, Err}
use Rattle.liquid_model.specs.declared.error.Error.{Error}
use Rattle.liquid_model.specs.ErrorKinds.{IsKindOrMemory}

-- the same value, or a fault of the same kind, unless memory ran out
abbrev pub SameKindOrMemory : {V : Type 0} → Result V Error → Result V Error → Type 0
SameKindOrMemory (Ok value) (Ok other) = other ≡ value
SameKindOrMemory (Ok value) (Err f) = ⊥
SameKindOrMemory (Err e) (Ok other) = ⊥
SameKindOrMemory (Err e) (Err f) = IsKindOrMemory e.kind f.kind

-- A value, or the kind of a fault in its place.
use Rattle.std.specs.Prelude.{Result, Ok, Err}
use Rattle.liquid_model.specs.declared.error.ErrorKind.{ErrorKind}

infixl 10 ◌>>=◌
abbrev pub ◌>>=◌ : {A B : Type 0} → Result A ErrorKind → (A → Result B ErrorKind) →
    Result B ErrorKind
◌>>=◌ (Ok a) k = k a
◌>>=◌ (Err kind) k = Err kind

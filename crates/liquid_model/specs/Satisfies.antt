-- What a filter answers, as the relation that its answer satisfies.
use Rattle.std.specs.Prelude.{MatchBool, ⊤, List, [], ◌∷◌, Result, Ok, Err}
use Rattle.liquid_model.specs.Data.{Datum}
use Rattle.liquid_model.specs.ErrorKinds.{is_memory}
use Rattle.liquid_model.specs.View.{view}
use Rattle.liquid_model.specs.declared.error.Error.{Error}
use Rattle.liquid_model.specs.declared.value.Value.{Value}
use Rattle.liquid_model.specs.Arguments.{Answer}

-- memory aside, R holds of the answer
abbrev pub Satisfies : (Answer → Type 0) → Result Value Error → Type 0
Satisfies R (Ok v) = R (Ok (view v))
Satisfies R (Err e) = MatchBool (is_memory e.kind) ⊤ (R (Err e.kind))

-- where there is a first argument, R of it, of the others and of the answer
abbrev pub WithFirst : (Datum → List Datum → Answer → Type 0) → List Datum → Answer → Type 0
WithFirst R [] a = Unit {0}
WithFirst R (x ∷ args) a = R x args a

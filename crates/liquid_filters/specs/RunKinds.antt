-- The kinds of faults that a run has, and that the filters that exist answer no others.
use Rattle.std.specs.Prelude.{◌≡◌, Bool, T, nat_le, List, Result, Err}
use Rattle.liquid_model.specs.Data.{Datum}
use Rattle.liquid_model.specs.ErrorKinds.{number_of}
use Rattle.liquid_model.specs.declared.error.ErrorKind.{ErrorKind}
use Rattle.liquid_filters.specs.Kinds.{kind_answer}
use Rattle.liquid_filters.specs.declared.kind.FilterKind.{FilterKind}

-- a kind of fault that a run ends by, of the numbers 1 to 16: the kinds of sources, refused memory
-- and failed writes are none
abbrev pub is_run_kind : ErrorKind → Bool
is_run_kind kind = nat_le (number_of kind) 16

-- an end by a value, or by such a kind
abbrev pub EndsAsRun : {A : Type 0} → Result A ErrorKind → Type 0
EndsAsRun end = (kind : ErrorKind) → end ≡ Err kind → T (is_run_kind kind)

-- whatever the input and the arguments are, the answer is a value or has such a kind
abbrev pub KindsOfAnswers : Type 0
KindsOfAnswers = (filter : FilterKind) (input : Datum) (arguments : List Datum) →
    EndsAsRun (kind_answer filter input arguments)

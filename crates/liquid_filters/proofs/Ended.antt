-- Ends by a value or by a kind that a run has, and how they come about.
use Rattle.std.specs.Prelude.{Bool, true, false, cond, T, Result, Ok, Err}
use mathlib.Core.Path.{refl, ap, subst}
use Rattle.liquid_model.specs.Fallible as fallible
use Rattle.liquid_model.specs.declared.error.ErrorKind.{ErrorKind}
use Rattle.liquid_model.specs.declared.error.ErrorKind.TheVariants.{UnknownVariable}
use Rattle.liquid_filters.specs.RunKinds.{is_run_kind, EndsAsRun}

pub record Ended {A : Type 0} (x : Result A ErrorKind) : Type 0 where
  pub ended : EndsAsRun x

abbrev pub kind_in : {A : Type 0} → Result A ErrorKind → ErrorKind
kind_in (Ok a) = UnknownVariable
kind_in (Err kind) = kind

pub ended_ok : {A : Type 0} (a : A) → Ended {A = A} (Ok a)
ended_ok a = record { ended = λ kind h. cc }

pub ended_err : {A : Type 0} (kind : ErrorKind) → T (is_run_kind kind) → Ended {A = A} (Err kind)
ended_err kind ok = record { ended = λ k h. subst (λ x. T (is_run_kind x)) (ap kind_in h) ok }

pub ended_then : {A B : Type 0} {x : Result A ErrorKind} {k : A → Result B ErrorKind} → Ended x → ((a : A) → Ended (k a)) → Ended (fallible.◌>>=◌ x k)
ended_then {x = Ok a} ix ik = ik a
ended_then {x = Err kind} ix ik = ended_err kind (ix.ended kind refl)

pub ended_cond : {A : Type 0} {x y : Result A ErrorKind} (b : Bool) → Ended x → Ended y → Ended (cond b x y)
ended_cond true i j = i
ended_cond false i j = j

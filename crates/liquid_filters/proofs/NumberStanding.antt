-- A number filter's answer stands in the relation that holds of it alone.
use Rattle.std.proofs.Common.{ℤ, Bool, List, [], ◌∷◌}
use Rattle.std.specs.Prelude.{Result}
use Rattle.liquid_model.specs.Answer.{Answers, IsTheOne}
use Rattle.liquid_model.specs.Data.{Datum, scalar}
use Rattle.liquid_model.specs.View.{view}
use Rattle.liquid_model.specs.Whole.{whole}
use Rattle.liquid_model.specs.declared.error.Error.{Error}
use Rattle.liquid_model.specs.declared.value.Value.{Value}
use Rattle.liquid_model.specs.Arguments.{Answer}
use Rattle.liquid_model.specs.Satisfies.{Satisfies}
use Rattle.liquid_model.proofs.Standing.{none_given, satisfies}
use Rattle.liquid_filters.specs.Decimals.{is_decimal_text}
use Rattle.liquid_filters.specs.NumberLaws.{AbsoluteOf, OperandSteps, StepsWith}
use Rattle.liquid_filters.specs.Numbers.{abs, of_none, of_one}
use Rattle.liquid_filters.specs.Rounding.{round, rounded}
use Rattle.liquid_filters.specs.RoundingLaws.{IsRounded, Rounds}
use Rattle.liquid_filters.specs.declared.stdlib.filters.math.decimal.Rounding.{Rounding}
use Rattle.liquid_filters.proofs.Operations.{abs_one}
use Rattle.liquid_filters.proofs.RoundingRelation.{round_one, rounded_one}

pub operated : (R : ℤ → ℤ → Answer → Type 0) (divides : Bool) (f : Datum → Datum → Answer) → ((d e : Datum) → IsTheOne (OperandSteps R divides d e) (f d e))
    → (d : Datum) (args : List Datum) (r : Result Value Error) → Answers view r (of_one f d args) → Satisfies (StepsWith R divides d args) r
operated R divides f one d [] r h = none_given (λ e rest. OperandSteps R divides d e) r
operated R divides f one d (e ∷ args) r h = satisfies (OperandSteps R divides d e) (f d e) r (one d e) h

pub absolutes : (d : Datum) (args : List Datum) (r : Result Value Error) → Answers view r (of_none abs d args) → Satisfies (AbsoluteOf (scalar d) (whole d) (is_decimal_text d)) r
absolutes d args r = satisfies (AbsoluteOf (scalar d) (whole d) (is_decimal_text d)) (abs d) r (abs_one d)

pub brought : (how : Rounding) (d : Datum) (args : List Datum) (r : Result Value Error) → Answers view r (of_none (rounded how) d args) → Satisfies (IsRounded how (whole d) d) r
brought how d args r = satisfies (IsRounded how (whole d) d) (rounded how d) r (rounded_one how d)

pub rounds : (d : Datum) (args : List Datum) (r : Result Value Error) → Answers view r (round d args) → Satisfies (Rounds args d) r
rounds d args r = satisfies (Rounds args d) (round d args) r (round_one d args)

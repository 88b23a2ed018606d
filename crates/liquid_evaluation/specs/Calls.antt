-- Filters in order, each known by its answers alone.
--     applied calls d e      what d becomes through the calls, or the first kind met on the way
use Rattle.std.specs.Prelude.{ℕ, zero, suc, ◌-◌, List, [], ◌∷◌, map, Result, Ok}
use Rattle.std.specs.Option.{unwrap_or}
use Rattle.liquid_model.specs.Data.{Datum, nil}
use Rattle.liquid_model.specs.declared.error.ErrorKind.{ErrorKind}
use Rattle.liquid_core.specs.declared.expression.Expression.{Expression as StoredExpression}
use Rattle.liquid_model.specs.Fallible.{◌>>=◌}
use Rattle.liquid_core.specs.Expression.{Expression}
use Rattle.liquid_core.specs.ExpressionView.{expression_view}
use Rattle.liquid_core.specs.Environment.{Environment}
use Rattle.liquid_core.specs.Expressions.{required, value_of}

-- the value of an argument, where the next n are required; nil where it isn't, and is missing
abbrev pub taken_argument : ℕ → Expression → Environment → Result Datum ErrorKind
taken_argument zero x e = Ok (unwrap_or (value_of x e) nil)
taken_argument (suc n) x e = required x e

-- the values of arguments, from left to right, of which the first n are required
unfoldable pub taken_arguments : ℕ → List Expression → Environment → Result (List Datum) ErrorKind
taken_arguments n [] e = Ok []
taken_arguments n (x ∷ xs) e = do
  d ← taken_argument n x e
  ds ← taken_arguments (n - 1) xs e
  Ok (d ∷ ds)

-- what a filter answers to an input and arguments, the arguments of the call, and how many of them
-- are required
pub record Call : Type 0 where
  pub answers : Datum → List Datum → Result Datum ErrorKind
  pub arguments : List Expression
  pub required : ℕ

-- the arguments of each are evaluated from left to right before it
unfoldable pub applied : List Call → Datum → Environment → Result Datum ErrorKind
applied [] d e = Ok d
applied (call ∷ calls) d e = do
  arguments ← taken_arguments call.required call.arguments e
  answer ← call.answers d arguments
  applied calls answer e

abbrev pub call_of : (Datum → List Datum → Result Datum ErrorKind) → List StoredExpression → ℕ →
    Call
call_of answers expressions n = record {
  answers = answers;
  arguments = map expression_view expressions;
  required = n;
}

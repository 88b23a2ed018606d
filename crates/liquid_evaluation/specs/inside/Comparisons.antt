-- A comparison of which the left side is evaluated.
use Rattle.std.specs.Prelude.{Bool, Option, Result}
use Rattle.liquid_model.specs.Data.{Datum}
use Rattle.liquid_model.specs.Fallible.{◌>>=◌}
use Rattle.liquid_model.specs.declared.error.ErrorKind.{ErrorKind}
use Rattle.liquid_core.specs.Environment.{Environment}
use Rattle.liquid_core.specs.Expression.{Expression}
use Rattle.liquid_core.specs.Expressions.{sought}
use Rattle.liquid_evaluation.specs.Evaluation.{truth_of_found}
use Rattle.liquid_evaluation.specs.declared.comparison.ComparisonOperator.{ComparisonOperator}

abbrev pub truth_beside : Option Datum → ComparisonOperator → Expression → Environment →
    Result Bool ErrorKind
truth_beside l comparison right e = do
  r ← sought right e
  truth_of_found e.missing comparison l r

-- Whether a condition holds in an environment in which a missing value is nil.
use Rattle.std.specs.Prelude.{Bool, true, false, ◌&&◌, ◌||◌, List, [], ◌∷◌, Result, Ok, Err}
use Rattle.std.specs.Option.{option_map_or}
use Rattle.liquid_model.specs.Data.{Datum, nil, truthy}
use Rattle.liquid_model.specs.declared.error.ErrorKind.{ErrorKind}
use Rattle.liquid_core.specs.Environment.{Environment}
use Rattle.liquid_core.specs.Expression.{Expression}
use Rattle.liquid_core.specs.Expressions.{value_of}
use Rattle.liquid_core.specs.declared.missing_value.Missing.TheVariants.{IsFault}
use Rattle.liquid_evaluation.specs.Evaluation.{comparison_truth}
use Rattle.liquid_evaluation.specs.Tree.{Atom, bare, compared, Condition}
use Rattle.liquid_evaluation.specs.declared.comparison.ComparisonOperator.{ComparisonOperator}

abbrev pub expression_or_nil : Expression → Environment → Datum
expression_or_nil x e = option_map_or (λ d. d) (value_of x e) nil

abbrev pub truth_or_false : Result Bool ErrorKind → Bool
truth_or_false (Ok b) = b
truth_or_false (Err kind) = false

-- two values that can't be compared don't compare: nil contains nothing
abbrev pub compares : ComparisonOperator → Datum → Datum → Bool
compares operator left right = truth_or_false (comparison_truth IsFault operator left right)

-- the truth of a value, or a comparison of two
abbrev pub atom_holds : Atom → Environment → Bool
atom_holds (bare x) e = truthy (expression_or_nil x e)
atom_holds (compared left operator right) e =
    compares operator (expression_or_nil left e) (expression_or_nil right e)

abbrev pub all_hold : List Atom → Environment → Bool
all_hold [] e = true
all_hold (atom ∷ atoms) e = atom_holds atom e && all_hold atoms e

-- one of the conjunctions, all atoms of which hold
abbrev pub condition_holds : Condition → Environment → Bool
condition_holds [] e = false
condition_holds (conjunction ∷ conjunctions) e = all_hold conjunction e
    || condition_holds conjunctions e

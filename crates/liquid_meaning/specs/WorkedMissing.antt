-- Worked runs in which a missing value is nil.
use Rattle.std.specs.Prelude.{false, List, [], ◌∷◌, Option, Some, None, Ok, Err, codes}
use Rattle.liquid_model.specs.Data.{nil, number, text, array}
use Rattle.liquid_model.specs.declared.error.ErrorKind.TheVariants.{InvalidInput}
use Rattle.liquid_core.specs.Expression.{Expression, literal}
use Rattle.liquid_filters.specs.declared.kind.FilterKind.{FilterKind}
use Rattle.liquid_evaluation.specs.declared.comparison.ComparisonOperator.{ComparisonOperator}
use Rattle.liquid_evaluation.specs.declared.comparison.ComparisonOperator.TheVariants.{Equals}
use Rattle.liquid_evaluation.specs.declared.comparison.ComparisonOperator.TheVariants.{NotEquals}
use Rattle.liquid_evaluation.specs.declared.comparison.ComparisonOperator.TheVariants.{Contains}
use Rattle.liquid_evaluation.specs.Tree.{Filter, existing, hosted, Source, counted, Node, plain}
use Rattle.liquid_evaluation.specs.Tree.{output, for_each, no_nodes}
use Rattle.liquid_evaluation.specs.Evaluation.{FilterAnswers}
use Rattle.liquid_meaning.specs.Runs.{Nothing, Outcome}
use Rattle.liquid_meaning.specs.Meaning.{meaning}
use Rattle.liquid_meaning.specs.Lenient.{leniently}
use Rattle.liquid_meaning.specs.Worked.{name, variable_property, text_literal, integer, show, tree}
use Rattle.liquid_meaning.specs.Worked.{if_compared, from_to, no_filters, with_data, Writes}
use Rattle.liquid_meaning.specs.Worked.{WritesThen}

-- over no data
abbrev pub lenient_run : FilterAnswers → List Node → Outcome Nothing
lenient_run answers nodes = meaning (record { answers = answers; partials = [] }) 32 (tree nodes)
    (leniently (with_data []))

-- {% if x operator y %}y{% endif %}
abbrev pub when_compared : Expression → ComparisonOperator → Expression → Outcome Nothing
when_compared x operator y =
    lenient_run no_filters (if_compared x operator y (plain (codes "y") ∷ []) ∷ [])

-- {% for i in source limit: x %}{{ i }}{% endfor %}
abbrev pub counting : Source → Option Expression → Outcome Nothing
counting source limit =
    lenient_run no_filters (for_each (codes "i") source
    (record { limit = limit; offset = None; reversed = false }) (tree (show (name "i") ∷ []))
    no_nodes ∷ [])

-- a filter of lists and numbers, and one of numbers alone
abbrev pub of_both : FilterAnswers
of_both filter (array ds) arguments = Ok (text (codes "list"))
of_both filter (number z) arguments = Ok (number z)
of_both filter d arguments = Err InvalidInput

abbrev pub of_numbers : FilterAnswers
of_numbers filter (number z) arguments = Ok (number z)
of_numbers filter d arguments = Err InvalidInput

-- {{ nil | filter }}
abbrev pub nil_through : FilterAnswers → Filter → Outcome Nothing
nil_through answers filter =
    lenient_run answers (output (record {
      entry = literal nil;
      filters = (record { filter = filter; arguments = []; required = 0 }) ∷ [];
    }) ∷ [])

pub record WorkedMissing : Type 0 where
  -- [{{ a }}{{ a.b }}]
  pub nothing_written : Writes (lenient_run no_filters
      (plain (codes "[") ∷ show (name "a") ∷ show (variable_property "a" "b") ∷
      plain (codes "]") ∷ [])) "[]"
  -- {% if a == nil %}, {% if a != 1 %}, {% if 'abc' contains a %} and {% if nil contains 'a' %}
  pub equals_nil : Writes (when_compared (name "a") Equals (literal nil)) "y"
  pub other_than_a_number : Writes (when_compared (name "a") NotEquals (integer 1)) "y"
  pub nothing_contains_it : Writes (when_compared (text_literal "abc") Contains (name "a")) ""
  pub nil_has_nothing : Writes (when_compared (literal nil) Contains (text_literal "a")) ""
  -- {% for i in (1..2) limit: a %}{{ i }}{% endfor %}, and with the limit nil
  pub missing_limit : Writes (counting (from_to 1 2) (Some (name "a"))) "12"
  pub nil_limit : Writes (counting (from_to 1 2) (Some (literal nil))) "12"
  -- {% for i in (a..2) %}{{ i }}{% endfor %}, and from nil
  pub missing_end : Writes (counting (counted (name "a") (integer 2)) None) "012"
  pub nil_end : Writes (counting (counted (literal nil) (integer 2)) None) "012"
  -- {{ nil | filter }}: an empty list comes before 0, and a host's filter is left alone
  pub nil_as_a_list : (kind : FilterKind) → Writes (nil_through of_both (existing kind)) "list"
  pub nil_as_zero : (kind : FilterKind) → Writes (nil_through of_numbers (existing kind)) "0"
  pub nil_of_a_host : WritesThen (nil_through of_both (hosted (codes "f"))) "" InvalidInput

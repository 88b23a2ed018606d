-- Worked runs of what stores: variables, counters, groups of `cycle`, and buffers.
use Prim.Native.String.{String}
use Rattle.std.specs.Prelude.{◌≡◌, pos, negsuc, List, [], ◌∷◌, ◌++◌, Some, None, Ok, codes}
use Rattle.liquid_model.specs.Texts.{Text}
use Rattle.liquid_model.specs.Data.{Datum, number, text, object, pair, no_pairs, array, item}
use Rattle.liquid_model.specs.Data.{no_items, text_of}
use Rattle.liquid_model.specs.declared.error.ErrorKind.TheVariants.{UnknownVariable, CycleBounds}
use Rattle.liquid_model.specs.declared.error.ErrorKind.TheVariants.{NumberRange}
use Rattle.liquid_core.specs.declared.interrupt.Interrupt.TheVariants.{Break}
use Rattle.liquid_core.specs.Expression.{Expression, variable, no_steps, step}
use Rattle.liquid_model.specs.Maps.{empty, listed}
use Rattle.liquid_core.specs.Environment.{Environment, new_environment}
use Rattle.liquid_evaluation.specs.declared.comparison.ComparisonOperator.TheVariants.{GreaterThan}
use Rattle.liquid_evaluation.specs.Tree.{Node, plain, assign, increment, decrement, break_loop}
use Rattle.liquid_evaluation.specs.Tree.{hosted, cycle, capture, ifchanged, filtered}
use Rattle.liquid_evaluation.specs.Evaluation.{FilterAnswers}
use Rattle.liquid_evaluation.specs.Groups.{group_of}
use Rattle.liquid_meaning.specs.Runs.{Nothing, Outcome}
use Rattle.liquid_meaning.specs.Meaning.{meaning}
use Rattle.liquid_meaning.specs.Worked.{name, variable_property, text_literal, integer}
use Rattle.liquid_meaning.specs.Worked.{without_filters, show, tree}
use Rattle.liquid_meaning.specs.Worked.{if_compared, from_to, for_in, with_data, ran, page, Writes}
use Rattle.liquid_meaning.specs.Worked.{WritesThen, assigned_after, counter_after, group_after}
use Rattle.liquid_meaning.specs.Worked.{interrupt_after}

-- a `cycle` with a name, and one without
abbrev pub cycle_named : Expression → List Expression → Node
cycle_named x values = cycle (group_of (Some x) values) values

abbrev pub unnamed_cycle : List Expression → Node
unnamed_cycle values = cycle (group_of None values) values

-- a new environment with these assigned, or with these counters
abbrev pub environment_with_assigned : List (Text × Datum) → Environment
environment_with_assigned pairs = record (new_environment empty) { assigned = listed pairs }

abbrev pub with_counters : List (Text × Datum) → Environment
with_counters pairs = record (new_environment empty) { counters = listed pairs }

abbrev pub from : Environment → List Node → Outcome Nothing
from e nodes = ran [] 32 e nodes

-- a filter of a host that adds its first argument to its input, and a run with it
abbrev pub adds_argument : FilterAnswers
adds_argument filter input [] = Ok input
adds_argument filter input (d ∷ ds) = Ok (text (text_of input ++ text_of d))

abbrev pub page_adding : List Node → Outcome Nothing
page_adding nodes = meaning (record { answers = adds_argument; partials = [] }) 32 (tree nodes)
    (with_data [])

-- {% add s %}body{% endadd %}, of a host
abbrev pub adding : String → List Node → Node
adding s body = filtered ((record {
  filter = hosted (codes "add");
  arguments = name s ∷ [];
  required = 1;
}) ∷ []) (tree body)

pub record WorkedStores : Type 0 where
  -- {% assign val = 9 %}{% increment val %}{% increment val %}{{ val }}
  pub counters_are_their_own : Writes
      (page (assign (codes "val") (without_filters (integer 9)) ∷ increment (codes "val") ∷
      increment (codes "val") ∷ show (name "val") ∷ [])) "019"
  -- {% decrement val %}{{ val }}
  pub counters_are_found : Writes (page (decrement (codes "val") ∷ show (name "val") ∷ [])) "-1-1"
  -- {% increment val %}{% increment val %}{% decrement val %}{% decrement val %}
  pub up_and_down : Writes (page (increment (codes "val") ∷ increment (codes "val") ∷
      decrement (codes "val") ∷ decrement (codes "val") ∷ [])) "0110"
  -- {% increment n %} where the counter is the text 41
  pub text_counter :
      let o = from (with_counters ((codes "n", text (codes "41")) ∷ [])) (increment (codes "n") ∷ []) in
      Writes o "41" × (counter_after o "n" ≡ Some (number (pos 42)))
  -- {% increment n %} and {% decrement n %} where the counter is the greatest number, and the least
  pub greatest :
      let o = from (with_counters ((codes "n", number (pos 9223372036854775807)) ∷ [])) (increment (codes "n") ∷ []) in
      WritesThen o "" NumberRange × (counter_after o "n" ≡ Some (number (pos 9223372036854775807)))
  pub least :
      let o = from (with_counters ((codes "n", number (negsuc 9223372036854775807)) ∷ [])) (decrement (codes "n") ∷ []) in
      WritesThen o "" NumberRange ×
      (counter_after o "n" ≡ Some (number (negsuc 9223372036854775807)))
  -- {% increment n %}{{ n }} where 5 is assigned to n, and where n is 5 in the data: these agree by
  -- look-up, and not layer by layer
  pub assigned_first : Writes (from (environment_with_assigned ((codes "n", number (pos 5)) ∷ []))
      (increment (codes "n") ∷ show (name "n") ∷ [])) "05"
  pub data_last : Writes (from (with_data ((codes "n", number (pos 5)) ∷ []))
      (increment (codes "n") ∷ show (name "n") ∷ [])) "01"
  -- {% assign a = 1 %}x{{ a.b }} where a is {"b": 2} in the data: the first layer that holds the
  -- name decides
  pub first_layer_decides : WritesThen
      (from (with_data ((codes "a", object (pair (codes "b") (number (pos 2)) no_pairs)) ∷ []))
      (assign (codes "a") (without_filters (integer 1)) ∷ plain (codes "x") ∷
      show (variable_property "a" "b") ∷ []))
      "x" UnknownVariable
  -- {% cycle c: 1, 2 %}\n{% cycle c: 1 %}\n
  pub cycle_bounds :
      let o = page (cycle_named (name "c") (integer 1 ∷ integer 2 ∷ []) ∷ plain (codes "\n") ∷ cycle_named (name "c") (integer 1 ∷ []) ∷ plain (codes "\n") ∷ []) in
      WritesThen o "1\n" CycleBounds × (group_after o "c" ≡ Some 0)
  -- {% cycle 'x': %}
  pub cycle_of_none :
      let o = page (cycle_named (text_literal "x") [] ∷ []) in
      WritesThen o "" CycleBounds × (group_after o "x" ≡ None)
  -- three times {% cycle a, 'b' %} where a is 1
  pub cycle_by_values :
      let n = unnamed_cycle (name "a" ∷ text_literal "b" ∷ []) in
      let o = from (with_data ((codes "a", number (pos 1)) ∷ [])) (n ∷ n ∷ n ∷ []) in
      Writes o "1b1" × (group_after o "a-\"b\"" ≡ Some 1)
  -- {% cycle '': 1, 2 %}
  pub cycle_by_an_empty_name :
      let o = page (cycle_named (text_literal "") (integer 1 ∷ integer 2 ∷ []) ∷ []) in
      Writes o "1" × (group_after o "1-2" ≡ Some 1)
  -- {% cycle a.b, c[0] %} where a is {"b": 7} and c is [8]
  pub cycle_by_written_forms :
      let o = from (with_data ((codes "a", object (pair (codes "b") (number (pos 7)) no_pairs)) ∷ (codes "c", array (item (number (pos 8)) no_items)) ∷ []))
      (unnamed_cycle (variable_property "a" "b" ∷ variable (codes "c") (step (integer 0) no_steps) ∷
      []) ∷ []) in
      Writes o "7" × (group_after o "a[\"b\"]-c[0]" ≡ Some 1)
  -- {% assign t = 'old' %}{% capture t %}x{{ nope }}{% endcapture %}
  pub faulted_capture :
      let o = page (assign (codes "t") (without_filters (text_literal "old")) ∷ capture (codes "t") (tree (plain (codes "x") ∷ show (name "nope") ∷ [])) ∷ []) in
      WritesThen o "" UnknownVariable × (assigned_after o "t" ≡ Some (text (codes "old")))
  -- {% capture a %}x{% break %}y{% endcapture %}z
  pub interrupted_capture :
      let o = page (capture (codes "a") (tree (plain (codes "x") ∷ break_loop ∷ plain (codes "y") ∷ [])) ∷ plain (codes "z") ∷ []) in
      Writes o "" × ((assigned_after o "a" ≡ Some (text (codes "x"))) ×
      (interrupt_after o ≡ Some Break))
  -- {% for a in (0..10) %}{% ifchanged %}\nHey! {% if a > 5 %}Numbers are now bigger than 5!{%
  -- endif %}{% endifchanged %}{% endfor %}
  pub changes_alone_are_written : Writes (page (for_in "a" (from_to 0 10)
      (ifchanged (tree (plain (codes "\nHey! ") ∷ if_compared (name "a") GreaterThan (integer 5)
      (plain (codes "Numbers are now bigger than 5!") ∷ []) ∷ [])) ∷ []) ∷ []))
      "\nHey! \nHey! Numbers are now bigger than 5!"
  -- {% for i in (1..2) %}{% ifchanged %}a{% ifchanged %}b{% endifchanged %}{% endifchanged %}{%
  -- endfor %}
  pub nested_changes :
      let o = page (for_in "i" (from_to 1 2) (ifchanged (tree (plain (codes "a") ∷ ifchanged (tree (plain (codes "b") ∷ [])) ∷ [])) ∷ []) ∷ []) in
      Writes o "abab" × (o.environment.registers.changed ≡ Some (codes "ab"))
  -- {% cycle 'c': nope, 1 %}
  pub stored_before_evaluated :
      let o = page (cycle_named (text_literal "c") (name "nope" ∷ integer 1 ∷ []) ∷ []) in
      WritesThen o "" UnknownVariable × (group_after o "c" ≡ Some 1)
  -- {% ifchanged %}a{% endifchanged %}{% ifchanged %}b{{ nope }}{% endifchanged %}
  pub faulted_change :
      let o = page (ifchanged (tree (plain (codes "a") ∷ [])) ∷ ifchanged (tree (plain (codes "b") ∷ show (name "nope") ∷ [])) ∷ []) in
      WritesThen o "a" UnknownVariable × (o.environment.registers.changed ≡ Some (codes "a"))
  -- {% add a %}x{% assign a = 1 %}{% endadd %}
  pub body_before_arguments : Writes (page_adding (adding "a" (plain (codes "x") ∷
      assign (codes "a") (without_filters (integer 1)) ∷ []) ∷ [])) "x1"
  -- {% add nope %}x{% increment n %}{% endadd %}
  pub faulted_block :
      let o = page_adding (adding "nope" (plain (codes "x") ∷ increment (codes "n") ∷ []) ∷ []) in
      WritesThen o "" UnknownVariable × (counter_after o "n" ≡ Some (number (pos 1)))
  -- {% assign a = 1 %}{% add a %}x{% break %}y{% endadd %}z
  pub interrupted_block :
      let body = plain (codes "x") ∷ break_loop ∷ plain (codes "y") ∷ [] in
      let o = page_adding (assign (codes "a") (without_filters (integer 1)) ∷
      adding "a" body ∷ plain (codes "z") ∷ []) in
      Writes o "x1" × (interrupt_after o ≡ Some Break)

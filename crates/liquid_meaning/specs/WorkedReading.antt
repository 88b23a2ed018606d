-- Worked uses: what covers some templates, and what is left of some values.
use Prim.Native.String.{String}
use Rattle.std.specs.Prelude.{◌≡◌, ℕ, Bool, true, false, pos, List, [], ◌∷◌, Option, Some, None}
use Rattle.std.specs.Prelude.{codes, length}
use Rattle.liquid_model.specs.Texts.{Text}
use Rattle.liquid_model.specs.Data.{Datum, nil, number, text, array, object, no_items, item}
use Rattle.liquid_model.specs.Data.{no_pairs, pair}
use Rattle.liquid_core.specs.Expression.{literal, variable, no_steps, step}
use Rattle.liquid_evaluation.specs.declared.comparison.ComparisonOperator.TheVariants.{Contains}
use Rattle.liquid_evaluation.specs.declared.comparison.ComparisonOperator.TheVariants.{Equals}
use Rattle.liquid_evaluation.specs.Tree.{each_of, existing, hosted, Chain, Node, assign, bare}
use Rattle.liquid_evaluation.specs.Tree.{if_true, case_of, for_each, increment, Nodes, no_nodes}
use Rattle.liquid_evaluation.specs.Tree.{output, render, Whens, no_whens, when}
use Rattle.liquid_core.specs.Expression.{Expression}
use Rattle.liquid_filters.specs.declared.kind.FilterKind.{FilterKind}
use Rattle.liquid_filters.specs.declared.kind.FilterKind.TheVariants.{Compact, Default, Map, Size}
use Rattle.liquid_filters.specs.declared.kind.FilterKind.TheVariants.{Where}
use Rattle.liquid_model.specs.Uses.{Use, nothing, everything, parts, Fields, no_fields, field}
use Rattle.liquid_model.specs.Uses.{uncounted, every, up_to, there, use_in}
use Rattle.liquid_meaning.specs.FilterNeeds.{known_needs}
use Rattle.liquid_meaning.specs.Reading.{Uses, Needs, covers}
use Rattle.liquid_meaning.specs.Reads.{needs_all}
use Rattle.liquid_model.specs.Projected.{projected}
use Rattle.liquid_meaning.specs.Worked.{name, variable_property, text_literal, integer}
use Rattle.liquid_meaning.specs.Worked.{without_filters, show, tree}
use Rattle.liquid_meaning.specs.Worked.{if_compared, for_in, no_filters}
use Rattle.liquid_meaning.specs.WorkedNames.{block_through}

-- of these names these uses
abbrev pub fields : List (String × Use) → Fields
fields [] = no_fields
fields (f ∷ fs) = field (codes f.0) f.1 (fields fs)

abbrev pub asking : List (String × Use) → Uses
asking fs key = use_in key (fields fs)

-- these members
abbrev pub with_members : List (String × Use) → Use
with_members fs = parts (fields fs) uncounted

-- this of each item, and of each of the first n
abbrev pub of_each : Use → Use
of_each u = parts no_fields (every u)

abbrev pub of_first : ℕ → Use → Use
of_first n u = parts no_fields (up_to (Some n) u)

abbrev pub covered_by : Needs → List (String × Use) → List (Text × Nodes) → List Node → Bool
covered_by needs fs partials nodes = covers needs (asking fs) (record {
  answers = no_filters;
  partials = partials;
}) (tree nodes)

abbrev pub covered : List (String × Use) → List (Text × Nodes) → List Node → Bool
covered fs partials nodes = covered_by needs_all fs partials nodes

-- by what each filter sees
abbrev pub covered_by_filters : List (String × Use) → List Node → Bool
covered_by_filters fs nodes = covered_by known_needs fs [] nodes

-- s | filter: arguments
abbrev pub one_filter : String → FilterKind → List Expression → Chain
one_filter s kind arguments = record {
  entry = name s;
  filters = record {
    filter = existing kind;
    arguments = arguments;
    required = length arguments;
  } ∷ [];
}

-- {% case x %}, with a `when` of each of these values
abbrev pub whens_of : List (List Expression) → Whens
whens_of [] = no_whens
whens_of (values ∷ more) = when values no_nodes (whens_of more)

abbrev pub case_over : Expression → List (List Expression) → Node
case_over x values = case_of x (whens_of values) no_nodes

-- {% for p in products %}{{ p.title }}{% endfor %}
abbrev pub titles : List Node
titles = for_in "p" (each_of (name "products")) (show (variable_property "p" "title") ∷ []) ∷ []

-- the same in a window
abbrev pub some_titles : Option Expression → Option Expression → List Node
some_titles limit offset =
    for_each (codes "p") (each_of (name "products"))
    (record { limit = limit; offset = offset; reversed = true })
    (tree (show (variable_property "p" "title") ∷ [])) no_nodes ∷ []

abbrev pub title : Use
title = with_members (("title", everything) ∷ [])

-- {"title": t, "price": 7, "tags": ["a", "b"]}
abbrev pub product : String → Datum
product t = object (pair (codes "price") (number (pos 7))
    (pair (codes "tags") (array (item (text (codes "a")) (item (text (codes "b")) no_items)))
    (pair (codes "title") (text (codes t)) no_pairs)))

abbrev pub two_products : Datum
two_products = array (item (product "x") (item (product "y") no_items))

abbrev pub only_title : String → Datum
only_title t = object (pair (codes "title") (text (codes t)) no_pairs)

pub record WorkedReading : Type 0 where
  pub a_loop : covered (("products", of_each title) ∷ ("p", title) ∷ []) [] titles ≡ true
  pub a_loop_asks_its_variable : covered (("products", of_each title) ∷ ("p", there) ∷
      []) [] titles ≡ false
  pub a_loop_asks_its_source : covered (("products", of_each there) ∷ ("p", title) ∷ []) [] titles ≡
      false
  pub a_loop_asks_how_many : covered (("products", title) ∷ ("p", title) ∷ []) [] titles ≡ false
  -- {% for p in products limit: 3 offset: 2 reversed %}, without the offset, and with offset: n
  pub a_limit : covered (("products", of_first 3 title) ∷ ("p", title) ∷ []) []
      (some_titles (Some (integer 3)) None) ≡ true
  pub a_limit_asks_no_fewer : covered (("products", of_first 2 title) ∷ ("p", title) ∷ []) []
      (some_titles (Some (integer 3)) None) ≡ false
  pub a_limit_after_an_offset : covered (("products", of_first 5 title) ∷ ("p", title) ∷ []) []
      (some_titles (Some (integer 3)) (Some (integer 2))) ≡ true
  pub an_offset_counts : covered (("products", of_first 4 title) ∷ ("p", title) ∷ []) []
      (some_titles (Some (integer 3)) (Some (integer 2))) ≡ false
  pub an_offset_that_is_computed : covered
      (("products", of_first 9 title) ∷ ("p", title) ∷ ("n", everything) ∷ []) []
      (some_titles (Some (integer 3)) (Some (name "n"))) ≡ false
  pub no_limit_asks_every_item : covered (("products", of_first 9 title) ∷ ("p", title) ∷ []) []
      (some_titles None None) ≡ false
  -- {{ a.b.c }}
  pub a_path : covered (("a", with_members (("b", with_members (("c", everything) ∷ [])) ∷ [])) ∷
      []) []
      (show (variable (codes "a") (step (text_literal "b") (step (text_literal "c") no_steps))) ∷
      []) ≡ true
  -- {{ a[b] }}
  pub a_step_that_is_computed : covered (("a", everything) ∷ ("b", everything) ∷ []) []
      (show (variable (codes "a") (step (name "b") no_steps)) ∷ []) ≡ true
  pub no_member_for_a_computed_step : covered (("a", with_members (("b", everything) ∷ [])) ∷
      ("b", everything) ∷ []) [] (show (variable (codes "a") (step (name "b") no_steps)) ∷ []) ≡
      false
  -- {% if a.b %}y{% endif %} and {% if a.b == 1 %}y{% endif %}
  pub a_truth_is_a_kind : covered (("a", with_members (("b", there) ∷ [])) ∷ []) []
      (if_true ((bare (variable_property "a" "b") ∷ []) ∷ []) no_nodes no_nodes ∷ []) ≡ true
  pub a_comparison_with_a_number : covered (("a", with_members (("b", there) ∷ [])) ∷ []) []
      (if_compared (variable_property "a" "b") Equals (integer 1) [] ∷ []) ≡ true
  -- {% if nil == a.b %}
  pub a_comparison_of_nil : covered (("a", with_members (("b", there) ∷ [])) ∷ []) []
      (if_compared (literal nil) Equals (variable_property "a" "b") [] ∷ []) ≡ true
  -- {% if a.b == c %}
  pub a_comparison_asks_all : covered
      (("a", with_members (("b", there) ∷ [])) ∷ ("c", everything) ∷ []) []
      (if_compared (variable_property "a" "b") Equals (name "c") [] ∷ []) ≡ false
  -- {% if a.b contains 'x' %}
  pub a_search_asks_all : covered (("a", with_members (("b", there) ∷ [])) ∷ []) []
      (if_compared (variable_property "a" "b") Contains (text_literal "x") [] ∷ []) ≡ false
  -- {% case a.b %}{% when 1, 2 %}{% when c %}{% endcase %}, with the last `when` and without it
  pub a_case_of_numbers : covered (("a", with_members (("b", there) ∷ [])) ∷ []) []
      (case_over (variable_property "a" "b") ((integer 1 ∷ integer 2 ∷ []) ∷ []) ∷ []) ≡ true
  pub a_case_asks_all : covered
      (("a", with_members (("b", there) ∷ [])) ∷ ("c", everything) ∷ []) []
      (case_over (variable_property "a" "b") ((integer 1 ∷ []) ∷ (name "c" ∷ []) ∷ []) ∷ []) ≡ false
  -- {% assign x = a.b %}{{ x.c }}
  pub an_assigned_value : covered
      (("a", with_members (("b", with_members (("c", everything) ∷ [])) ∷ [])) ∷
      ("x", with_members (("c", everything) ∷ [])) ∷ []) []
      (assign (codes "x") (without_filters (variable_property "a" "b")) ∷
      show (variable_property "x" "c") ∷ []) ≡ true
  pub an_unread_value : covered [] [] (assign (codes "x") (without_filters (name "a")) ∷ []) ≡ false
  -- {% render 'p' v: a.b %} and a partial {{ v.c }}
  pub a_partial : covered (("a", with_members (("b", with_members (("c", everything) ∷ [])) ∷ [])) ∷
      ("v", with_members (("c", everything) ∷ [])) ∷ [])
      ((codes "p", tree (show (variable_property "v" "c") ∷ [])) ∷ [])
      (render (text_literal "p") None ((codes "v", variable_property "a" "b") ∷ []) ∷ []) ≡ true
  pub a_partial_is_looked_at : covered [] ((codes "p", tree (show (name "v") ∷ [])) ∷ []) [] ≡ false
  -- {% increment n %}
  pub a_counter : covered (("n", there) ∷ []) [] (increment (codes "n") ∷ []) ≡ true
  -- of a host: {% f b %}{{ a }}{% endf %}
  pub a_block : covered (("a", everything) ∷ ("b", everything) ∷ []) []
      (block_through (hosted (codes "f")) ∷ []) ≡ true
  pub a_block_asks_its_arguments : covered (("a", everything) ∷ ("b", there) ∷ []) []
      (block_through (hosted (codes "f")) ∷ []) ≡ false
  pub a_block_asks_its_body : covered (("a", there) ∷ ("b", everything) ∷ []) []
      (block_through (hosted (codes "f")) ∷ []) ≡ false
  -- {{ a | map: 't' }} and {{ a | size }}
  pub a_map : covered_by_filters (("a", of_each (with_members (("t", everything) ∷ []))) ∷
      [])
      (output (one_filter "a" Map (text_literal "t" ∷ [])) ∷ []) ≡ true
  pub a_map_asks_its_property : covered_by_filters (("a", of_each there) ∷ [])
      (output (one_filter "a" Map (text_literal "t" ∷ [])) ∷ []) ≡ false
  pub a_number_of_items : covered_by_filters (("a", of_each nothing) ∷ [])
      (output (one_filter "a" Size []) ∷ []) ≡ true
  -- {% assign x = a | where: 't' %}{{ x.size }}
  pub a_choice : covered_by_filters ((
    "a",
    parts (fields (("t", everything) ∷ []))
        (every (with_members (("t", everything) ∷ []))),
  ) ∷
      ("x", with_members (("size", everything) ∷ [])) ∷ [])
      (assign (codes "x") (one_filter "a" Where (text_literal "t" ∷ [])) ∷
      show (variable_property "x" "size") ∷ []) ≡ true
  -- {% assign x = a | compact %}{{ x.size }}
  pub a_nil_is_a_kind : covered_by_filters (("a", of_each there) ∷
      ("x", with_members (("size", everything) ∷ [])) ∷ [])
      (assign (codes "x") (one_filter "a" Compact []) ∷ show (variable_property "x" "size") ∷ []) ≡
      true
  -- {% assign x = a | default: 'n' %}{{ x.t }}
  pub a_default : covered_by_filters ((
    "a",
    parts (fields (("t", everything) ∷ []))
        (every nothing),
  ) ∷ ("x", with_members (("t", everything) ∷ [])) ∷ [])
      (assign (codes "x") (one_filter "a" Default (text_literal "n" ∷ [])) ∷
      show (variable_property "x" "t") ∷ []) ≡ true
  pub a_default_asks_how_many : covered_by_filters
      (("a", with_members (("t", everything) ∷ [])) ∷
      ("x", with_members (("t", everything) ∷ [])) ∷ [])
      (assign (codes "x") (one_filter "a" Default (text_literal "n" ∷ [])) ∷
      show (variable_property "x" "t") ∷ []) ≡ false
  -- what is left
  pub items_with_one_member : projected (of_each title) two_products ≡
      array (item (only_title "x") (item (only_title "y") no_items))
  pub a_length : projected (with_members (("size", everything) ∷ [])) two_products ≡
      array (item nil (item nil no_items))
  pub a_first_item : projected (with_members (("first", title) ∷ [])) two_products ≡
      array (item (only_title "x") (item (only_title "y") no_items))
  pub only_whether : projected there two_products ≡ array no_items
  pub a_map_gone_over : projected (of_each (with_members (("0", everything) ∷ []))) (product "x") ≡
      object (pair (codes "price") nil
      (pair (codes "tags") nil (pair (codes "title") nil no_pairs)))

-- Worked runs of chains, conditions and loops.
use Prim.Native.String.{String}
use Rattle.std.specs.Prelude.{◌≡◌, pos, negsuc, true, false, cond, List, [], ◌∷◌, Some, None, Ok}
use Rattle.std.specs.Prelude.{codes}
use Rattle.liquid_model.specs.Data.{Datum, nil, truth, number, object, pair, no_pairs, array, item}
use Rattle.liquid_model.specs.Data.{no_items, is_default_datum}
use Rattle.liquid_model.specs.declared.error.ErrorKind.TheVariants.{UnknownVariable}
use Rattle.liquid_model.specs.declared.error.ErrorKind.TheVariants.{UnexpectedValue, ZeroColumns}
use Rattle.liquid_core.specs.declared.interrupt.Interrupt.TheVariants.{Break}
use Rattle.liquid_core.specs.Expression.{literal, variable, no_steps, step}
use Rattle.liquid_evaluation.specs.declared.comparison.ComparisonOperator.TheVariants.{Equals}
use Rattle.liquid_evaluation.specs.declared.comparison.ComparisonOperator.TheVariants.{LessThan}
use Rattle.liquid_evaluation.specs.declared.comparison.ComparisonOperator.TheVariants.{LessThanEquals}
use Rattle.liquid_evaluation.specs.declared.comparison.ComparisonOperator.TheVariants.{Contains}
use Rattle.liquid_evaluation.specs.Tree.{Filter, Node, bare, compared, each_of, Window, plain}
use Rattle.liquid_evaluation.specs.Tree.{output, assign, break_loop, continue_loop, if_true, unless}
use Rattle.liquid_evaluation.specs.Tree.{case_of, for_each, tablerow, no_whens, when, no_nodes}
use Rattle.liquid_evaluation.specs.Tree.{counted}
use Rattle.liquid_evaluation.specs.Evaluation.{FilterAnswers}
use Rattle.liquid_meaning.specs.Effects.{interrupted_by}
use Rattle.liquid_meaning.specs.Runs.{Nothing, Outcome}
use Rattle.liquid_meaning.specs.Meaning.{meaning}
use Rattle.liquid_meaning.specs.Worked.{name, variable_property, text_literal, integer}
use Rattle.liquid_meaning.specs.Worked.{without_filters, show, tree}
use Rattle.liquid_meaning.specs.Worked.{if_compared, from_to, whole_window, for_in, with_data, ran}
use Rattle.liquid_meaning.specs.Worked.{page, Writes, WritesThen, assigned_after, interrupt_after}

-- filters that answer their argument for nil, false and what is empty, as `default` does
abbrev pub first_or_nil : List Datum → Datum
first_or_nil [] = nil
first_or_nil (d ∷ ds) = d

abbrev pub as_default : FilterAnswers
as_default filter input arguments =
    Ok (cond (is_default_datum input) (first_or_nil arguments) input)

-- {{ a }}{% for i in b %}{{ i }}{{ forloop.index }}{% endfor %}{% assign c = a %} where a is 1 and
-- b is [7, 8]
abbrev pub two_names : Datum → Outcome Nothing
two_names z =
    ran [] 32 (with_data ((codes "a", number (pos 1)) ∷
    (codes "b", array (item (number (pos 7)) (item (number (pos 8)) no_items))) ∷
    (codes "z", z) ∷ []))
    (show (name "a") ∷ for_in "i" (each_of (name "b")) (show (name "i") ∷
    show (variable_property "forloop" "index") ∷ []) ∷ assign (codes "c")
    (without_filters (name "a")) ∷ [])

-- {% for i in (1..3) window %}[{{ i }}]{% endfor %}
abbrev pub in_window : Window → Outcome Nothing
in_window window =
    page (for_each (codes "i") (from_to 1 3) window
    (tree (plain (codes "[") ∷ show (name "i") ∷ plain (codes "]") ∷ []))
    (tree (plain (codes "e") ∷ [])) ∷ [])

-- {{ s.t }} and a space, for each t
abbrev pub show_all : String → List String → List Node
show_all s [] = []
show_all s (t ∷ ts) = show (variable_property s t) ∷ plain (codes " ") ∷ show_all s ts

pub record WorkedLoops : Type 0 where
  -- {{ nope | default: 'd' }}{{ nope }}
  pub missing_entry : (default : Filter) →
      WritesThen (meaning (record { answers = as_default; partials = [] }) 32
      (tree (output (record {
        entry = name "nope";
        filters = (record {
          filter = default;
          arguments = text_literal "d" ∷ [];
          required = 1;
        }) ∷ [];
      }) ∷
      show (name "nope") ∷ [])) (with_data []))
      "d" UnknownVariable
  -- {% if true or nope == 1 and false %}y{% endif %}
  pub left_decides : Writes
      (page (if_true ((bare (literal (truth true)) ∷ []) ∷
      (compared (name "nope") Equals (integer 1) ∷ bare (literal (truth false)) ∷ []) ∷ [])
      (tree (plain (codes "y") ∷ [])) no_nodes ∷ [])) "y"
  -- {% unless x %}a{% else %}b{% endunless %}
  pub missing_is_false : Writes
      (page (unless ((bare (name "x") ∷ []) ∷ []) (tree (plain (codes "a") ∷ []))
      (tree (plain (codes "b") ∷ [])) ∷ [])) "a"
  -- {% if 1 < 'a' %}y{% elsif nil <= nil %}z{% else %}n{% endif %}
  pub unlike_have_no_order : Writes
      (page (if_true ((compared (integer 1) LessThan (text_literal "a") ∷ []) ∷ [])
      (tree (plain (codes "y") ∷ []))
      (tree (if_true ((compared (literal nil) LessThanEquals (literal nil) ∷ []) ∷ [])
      (tree (plain (codes "z") ∷ [])) (tree (plain (codes "n") ∷ [])) ∷ [])) ∷ [])) "n"
  -- {% if m contains 'k' and 123 contains 2 %}y{% endif %} where m is {"k": null}
  pub of_a_map_and_a_text : Writes
      (ran [] 32 (with_data ((codes "m", object (pair (codes "k") nil no_pairs)) ∷ []))
      (if_true ((compared (name "m") Contains (text_literal "k") ∷ compared (integer 123) Contains
      (integer 2) ∷ []) ∷ []) (tree (plain (codes "y") ∷ [])) no_nodes ∷ [])) "y"
  -- {% if nil contains 'a' %}y{% endif %} and {% if a == nil %}y{% endif %}
  pub nil_contains : WritesThen
      (page (if_compared (literal nil) Contains (text_literal "a")
      (plain (codes "y") ∷ []) ∷ [])) ""
      UnexpectedValue
  pub missing_side : WritesThen
      (page (if_compared (name "a") Equals (literal nil) (plain (codes "y") ∷ []) ∷ [])) ""
      UnknownVariable
  -- {% case x %}{% when 1, 2 or 3 %}low{% else %}high{% endcase %} where x is 3
  pub case_by_equality : Writes (ran [] 32 (with_data ((codes "x", number (pos 3)) ∷ []))
      (case_of (name "x") (when (integer 1 ∷ integer 2 ∷ integer 3 ∷ [])
      (tree (plain (codes "low") ∷ [])) no_whens) (tree (plain (codes "high") ∷ [])) ∷ []))
      "low"
  -- {% case nope %}{% endcase %}
  pub case_of_nothing : WritesThen (page (case_of (name "nope") no_whens no_nodes ∷ [])) ""
      UnknownVariable
  -- the same names with the same values give the same run, whatever else the data holds
  pub whatever_else : (z : Datum) → Writes (two_names z) "17182" ×
      ((assigned_after (two_names z) "c" ≡ Some (number (pos 1))) ×
      ((two_names z).environment.globals (codes "z") ≡ Some z))
  -- limit:3 offset:2, limit:-1 offset:1, offset:-1, and reversed offset:1 limit:1
  pub past_the_end : Writes (in_window (record {
    limit = Some (integer 3);
    offset = Some (integer 2);
    reversed = false;
  })) "[3][][]"
  pub negative_is_huge : Writes (in_window (record {
    limit = Some (literal (number (negsuc 0)));
    offset = Some (integer 1);
    reversed = false;
  })) "[2][3][]"
  pub nothing_left : Writes (in_window (record {
    limit = None;
    offset = Some (literal (number (negsuc 0)));
    reversed = false;
  })) "e"
  pub reversed_last : Writes (in_window (record {
    limit = Some (integer 2);
    offset = Some (integer 1);
    reversed = true;
  })) "[3][2]"
  -- {% for p in m %}{{ p[0] }}={{ p[1] }};{% endfor %} where m is {"a": 1, "b": 2}
  pub pairs_of_a_map : Writes
      (ran [] 32 (with_data
      ((
        codes "m",
        object
            (pair (codes "a") (number (pos 1)) (pair (codes "b") (number (pos 2)) no_pairs)),
      ) ∷ []))
      (for_in "p" (each_of (name "m")) (show (variable (codes "p") (step (integer 0) no_steps)) ∷
      plain (codes "=") ∷ show (variable (codes "p") (step (integer 1) no_steps)) ∷
      plain (codes ";") ∷ []) ∷ [])) "a=1;b=2;"
  -- {% for i in 'a' %}{% endfor %} and {% for i in nope %}{% endfor %}
  pub no_list : WritesThen (page (for_in "i" (each_of (text_literal "a")) [] ∷ [])) ""
      UnexpectedValue
  pub no_value : WritesThen (page (for_in "i" (each_of (name "nope")) [] ∷ [])) "" UnknownVariable
  -- {% for i in ('x'..nope) %}{% endfor %}, {% for i in 'a' limit:nope %}{% endfor %} and {% for i
  -- in (1..2) limit:'a' %}{% endfor %}
  pub ends_in_turn : WritesThen
      (page (for_in "i" (counted (text_literal "x") (name "nope")) [] ∷ [])) "" UnexpectedValue
  pub source_first : WritesThen (page (for_each (codes "i") (each_of (text_literal "a")) (record {
    limit = Some (name "nope");
    offset = None;
    reversed = false;
  }) no_nodes no_nodes ∷ [])) "" UnexpectedValue
  pub no_whole_number : WritesThen (page (for_each (codes "i") (from_to 1 2) (record {
    limit = Some (text_literal "a");
    offset = None;
    reversed = false;
  }) no_nodes no_nodes ∷ [])) "" UnexpectedValue
  -- {% for i in (1..2) %}{% for j in (1..2) %}{{ forloop.parentloop.index }}{{ forloop.index }},{%
  -- endfor %}{% endfor %}
  pub parent : Writes (page (for_in "i" (from_to 1 2) (for_in "j" (from_to 1 2)
      (show (variable (codes "forloop")
      (step (text_literal "parentloop") (step (text_literal "index") no_steps))) ∷
      show (variable_property "forloop" "index") ∷ plain (codes ",") ∷ []) ∷ []) ∷ []))
      "11,12,21,22,"
  -- each property of `forloop`, and each that `tablerow` has besides
  pub properties_of_forloop : Writes
      (page (for_in "i" (from_to 1 2) (show_all "forloop" ("length" ∷ "index0" ∷ "index" ∷
      "rindex0" ∷ "rindex" ∷ "first" ∷ "last" ∷ [])) ∷ []))
      "2 0 1 1 2 true false 2 1 2 0 1 false true "
  pub properties_of_tablerow : Writes
      (page (tablerow (codes "i") (from_to 1 3) whole_window (Some (integer 2))
      (tree (show_all "tablerow" ("length" ∷ "index0" ∷ "index" ∷ "rindex0" ∷ "rindex" ∷ "first" ∷
      "last" ∷ "col0" ∷ "col" ∷ "col_first" ∷ "col_last" ∷ []))) ∷ []))
      "<tr class=\"row1\"><td class=\"col1\">3 0 1 2 3 true false 0 1 true false </td><td class=\"col2\">3 1 2 1 2 false false 1 2 false true </td></tr><tr class=\"row2\"><td class=\"col1\">3 2 3 0 1 false true 0 1 true true </td></tr>"
  -- {% for i in (1..2) %}{% for forloop in (8..8) %}{{ forloop }}{% endfor %}{{ forloop.rindex }}{%
  -- endfor %}
  pub variable_over_forloop : Writes
      (page (for_in "i" (from_to 1 2) (for_in "forloop" (from_to 8 8) (show (name "forloop") ∷
      []) ∷ show (variable_property "forloop" "rindex") ∷ []) ∷ [])) "8281"
  -- {% for i in (1..2) %}{% continue %}x{% endfor %}y
  pub continued : Writes (page (for_in "i" (from_to 1 2) (continue_loop ∷ plain (codes "x") ∷ []) ∷
      plain (codes "y") ∷ [])) "y"
  -- {% for o in (0..1) %}e{{o}};{% for i in (6..10) %}{% if i == 8 %}b{% break %}{% endif %}{{ i
  -- }},{% endfor %}x{{o}}\n{% endfor %}
  pub break_ends_one_loop : Writes (page (for_in "o" (from_to 0 1)
      (plain (codes "e") ∷ show (name "o") ∷ plain (codes ";")
      ∷ for_in "i" (from_to 6 10) (if_compared (name "i") Equals (integer 8) (plain (codes "b") ∷
      break_loop ∷ []) ∷ show (name "i") ∷ plain (codes ",") ∷ [])
      ∷ plain (codes "x") ∷ show (name "o") ∷ plain (codes "\n") ∷ []) ∷ []))
      "e0;6,7,bx0\ne1;6,7,bx1\n"
  -- a{% break %}b; and where the interrupt is a break beforehand: c{{ 1 }}, and {% for i in (1..3)
  -- %}{{ i }}{% endfor %}
  pub interrupt_stays : let o = page (plain (codes "a") ∷ break_loop ∷ plain (codes "b") ∷ []) in Writes o "a" × (interrupt_after o ≡ Some Break)
  pub first_node_runs : Writes (ran [] 32 (interrupted_by (Some Break) (with_data []))
      (plain (codes "c") ∷ show (integer 1) ∷ [])) "c"
  pub left_by_the_first_item :
      let o = ran [] 32 (interrupted_by (Some Break) (with_data [])) (for_in "i" (from_to 1 3) (show (name "i") ∷ []) ∷ []) in
      Writes o "1" × (interrupt_after o ≡ None)
  -- {% tablerow i in (1..2) %}a{% break %}b{% endtablerow %}z
  pub rows_keep_a_break :
      let o = page (tablerow (codes "i") (from_to 1 2) whole_window None (tree (plain (codes "a") ∷ break_loop ∷ plain (codes "b") ∷ [])) ∷ plain (codes "z") ∷ []) in
      Writes o "<tr class=\"row1\"><td class=\"col1\">a</td><td class=\"col2\">a</td></tr>" ×
      (interrupt_after o ≡ Some Break)
  -- {% tablerow i in (1..3) cols:2 %}{{ i }}{% if tablerow.col_last %}!{% endif %}{% endtablerow %}
  pub rows_and_columns : Writes
      (page (tablerow (codes "i") (from_to 1 3) whole_window (Some (integer 2))
      (tree (show (name "i") ∷ if_true ((bare (variable_property "tablerow" "col_last") ∷ []) ∷ [])
      (tree (plain (codes "!") ∷ [])) no_nodes ∷ [])) ∷ []))
      "<tr class=\"row1\"><td class=\"col1\">1</td><td class=\"col2\">2!</td></tr><tr class=\"row2\"><td class=\"col1\">3!</td></tr>"
  -- {% tablerow i in (1..3) cols:0 %}x{% endtablerow %}, and cols:nope limit:'a'
  pub no_columns : WritesThen (page (tablerow (codes "i") (from_to 1 3) whole_window
      (Some (integer 0))
      (tree (plain (codes "x") ∷ [])) ∷ [])) "" ZeroColumns
  pub columns_first : WritesThen (page (tablerow (codes "i") (from_to 1 1) (record {
    limit = Some (text_literal "a");
    offset = None;
    reversed = false;
  }) (Some (name "nope")) no_nodes ∷ [])) "" UnknownVariable

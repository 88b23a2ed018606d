-- Worked runs and names, by computing them.
use Rattle.std.specs.Prelude.{ℕ}
use mathlib.Core.Path.{refl}
use Rattle.std.specs.Fmt.{digits}
use Rattle.liquid_model.specs.Maps.{empty, insert, retain_keys, merged, listed}
use Rattle.liquid_core.specs.Expressions.{value_of, path_of, sought_whole, needed_whole}
use Rattle.liquid_evaluation.specs.Calls.{applied, taken_arguments}
use Rattle.liquid_evaluation.specs.Tree.{Nodes}
use Rattle.liquid_evaluation.specs.Evaluation.{chain_value, comparison_truth, atom_truth, all_true, truth_of, source_items, amount, selected_items, bound_values}
use Rattle.liquid_evaluation.specs.Names.{expression_names, all_names, optional_names, filters_names, chain_names, atom_names, atoms_names, condition_names, source_names, window_names, bound_names, target_names, include_name, node_names, nodes_names, whens_names, partials_names}
use Rattle.liquid_meaning.specs.Runs.{Nothing, Run, done, read_environment, evaluate, fault, change, write, go_on, ◌>>=◌, with_scope, buffered, apart}
use Rattle.liquid_meaning.specs.Effects.{unless_interrupted}
use Rattle.liquid_meaning.specs.Loops.{until_break, for_all, loop, rows}
use Rattle.liquid_meaning.specs.Meaning.{Setting, has_equal, node_meaning, nodes_meaning, deeper_meaning, meaning}
use Rattle.liquid_meaning.specs.WorkedStores.{WorkedStores}
use Rattle.liquid_meaning.specs.WorkedLoops.{WorkedLoops}
use Rattle.liquid_meaning.specs.WorkedPartials.{WorkedPartials}
use Rattle.liquid_meaning.specs.WorkedMissing.{WorkedMissing}
use Rattle.liquid_meaning.specs.WorkedNames.{WorkedNames}

-- to unfold this is to compute
computed : Setting → ℕ → Nodes → Run Nothing
unfolding empty insert retain_keys merged listed digits value_of path_of taken_arguments sought_whole needed_whole applied chain_value comparison_truth atom_truth all_true truth_of source_items amount selected_items bound_values done read_environment evaluate fault change write go_on ◌>>=◌ with_scope buffered apart unless_interrupted until_break for_all loop rows has_equal node_meaning nodes_meaning deeper_meaning meaning
computed = meaning

pub worked_stores : WorkedStores
unfolding computed
worked_stores = record {
  counters_are_their_own = (refl, refl);
  counters_are_found = (refl, refl);
  up_and_down = (refl, refl);
  text_counter = ((refl, refl), refl);
  greatest = ((refl, refl), refl);
  least = ((refl, refl), refl);
  assigned_first = (refl, refl);
  data_last = (refl, refl);
  first_layer_decides = (refl, refl);
  cycle_bounds = ((refl, refl), refl);
  cycle_of_none = ((refl, refl), refl);
  cycle_by_values = ((refl, refl), refl);
  cycle_by_an_empty_name = ((refl, refl), refl);
  cycle_by_written_forms = ((refl, refl), refl);
  faulted_capture = ((refl, refl), refl);
  interrupted_capture = ((refl, refl), (refl, refl));
  changes_alone_are_written = (refl, refl);
  nested_changes = ((refl, refl), refl);
  stored_before_evaluated = ((refl, refl), refl);
  faulted_change = ((refl, refl), refl);
  body_before_arguments = (refl, refl);
  faulted_block = ((refl, refl), refl);
  interrupted_block = ((refl, refl), refl);
}

pub worked_loops : WorkedLoops
unfolding computed
worked_loops = record {
  missing_entry = λ default. (refl, refl);
  left_decides = (refl, refl);
  missing_is_false = (refl, refl);
  unlike_have_no_order = (refl, refl);
  of_a_map_and_a_text = (refl, refl);
  nil_contains = (refl, refl);
  missing_side = (refl, refl);
  case_by_equality = (refl, refl);
  case_of_nothing = (refl, refl);
  whatever_else = λ z. ((refl, refl), (refl, refl));
  past_the_end = (refl, refl);
  negative_is_huge = (refl, refl);
  nothing_left = (refl, refl);
  reversed_last = (refl, refl);
  pairs_of_a_map = (refl, refl);
  no_list = (refl, refl);
  no_value = (refl, refl);
  ends_in_turn = (refl, refl);
  source_first = (refl, refl);
  no_whole_number = (refl, refl);
  parent = (refl, refl);
  properties_of_forloop = (refl, refl);
  properties_of_tablerow = (refl, refl);
  variable_over_forloop = (refl, refl);
  continued = (refl, refl);
  break_ends_one_loop = (refl, refl);
  interrupt_stays = ((refl, refl), refl);
  first_node_runs = (refl, refl);
  left_by_the_first_item = ((refl, refl), refl);
  rows_keep_a_break = ((refl, refl), refl);
  rows_and_columns = (refl, refl);
  no_columns = (refl, refl);
  columns_first = (refl, refl);
}

pub worked_partials : WorkedPartials
unfolding computed
worked_partials = record {
  render_is_apart = (refl, refl);
  include_is_not = (refl, refl);
  fault_in_render = ((refl, refl), refl);
  no_data_in_render = (refl, refl);
  depth = (refl, refl);
  no_depth = (refl, refl);
  looked_up_first = (refl, refl);
  included_first = (refl, refl);
  render_tries_liquid = (refl, refl);
  include_does_not = (refl, refl);
  pairs_before_lookup = (refl, refl);
  nothing_for_no_items = (refl, refl);
  break_ends_the_items = (refl, refl);
  item_over_pairs = (refl, refl);
  forloop_over_pairs = (refl, refl);
  item_over_forloop = (refl, refl);
  continue_goes_on = (refl, refl);
  pairs_see_the_caller = (refl, refl);
  later_pair_wins = (refl, refl);
  break_stays_in_render = (refl, refl);
  break_leaves_include = (refl, refl);
  name_is_a_scalar = (refl, refl);
  include_object = (refl, refl);
  later_key_wins = (refl, refl);
  no_include_object = (refl, refl);
}

pub worked_missing : WorkedMissing
unfolding computed
worked_missing = record {
  nothing_written = (refl, refl);
  equals_nil = (refl, refl);
  other_than_a_number = (refl, refl);
  nothing_contains_it = (refl, refl);
  nil_has_nothing = (refl, refl);
  missing_limit = (refl, refl);
  nil_limit = (refl, refl);
  missing_end = (refl, refl);
  nil_end = (refl, refl);
  nil_as_a_list = λ kind. (refl, refl);
  nil_as_zero = λ kind. (refl, refl);
  nil_of_a_host = (refl, refl);
}

pub worked_names : WorkedNames
unfolding expression_names all_names optional_names filters_names chain_names atom_names atoms_names condition_names source_names window_names bound_names target_names include_name node_names nodes_names whens_names partials_names
worked_names = record {
  of_a_loop = (search, search);
  in_steps = (search, search);
  of_no_texts = (search, search);
  of_partials = (search, search);
  of_include = (search, search);
  of_output = λ filter. (search, search);
  of_assign = λ filter. (search, search);
  of_increment = (search, search);
  of_decrement = (search, search);
  of_cycle = (search, search);
  of_if = (search, search);
  of_unless = (search, search);
  of_case = (search, search);
  of_for = (search, search);
  of_tablerow = (search, search);
  of_capture = (search, search);
  of_ifchanged = (search, search);
  of_filtered = λ filter. (search, search);
  of_stdlib_include = (search, search);
  of_render = (search, search);
  of_render_for = (search, search);
  of_no_pairs = (search, search);
}

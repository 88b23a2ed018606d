-- Worked uses are computed.
use mathlib.Core.Path.{refl}
use Rattle.liquid_meaning.specs.WorkedReading.{WorkedReading}
use Rattle.liquid_meaning.specs.Reading.{grants, grants_all, grants_optional, grants_filters, grants_chain, grants_compared, grants_values, grants_atom, grants_atoms, grants_condition, grants_source, grants_window, grants_bindings, grants_node, grants_partials}

pub worked_uses : WorkedReading
unfolding grants grants_all grants_optional grants_filters grants_chain grants_compared grants_values grants_atom grants_atoms grants_condition grants_source grants_window grants_bindings grants_node grants_partials
worked_uses = record {
  a_loop = refl;
  a_loop_asks_its_variable = refl;
  a_loop_asks_its_source = refl;
  a_loop_asks_how_many = refl;
  a_limit = refl;
  a_limit_asks_no_fewer = refl;
  a_limit_after_an_offset = refl;
  an_offset_counts = refl;
  an_offset_that_is_computed = refl;
  no_limit_asks_every_item = refl;
  a_path = refl;
  a_step_that_is_computed = refl;
  no_member_for_a_computed_step = refl;
  a_truth_is_a_kind = refl;
  a_comparison_with_a_number = refl;
  a_comparison_of_nil = refl;
  a_comparison_asks_all = refl;
  a_search_asks_all = refl;
  a_case_of_numbers = refl;
  a_case_asks_all = refl;
  an_assigned_value = refl;
  an_unread_value = refl;
  a_partial = refl;
  a_partial_is_looked_at = refl;
  a_counter = refl;
  a_block = refl;
  a_block_asks_its_arguments = refl;
  a_block_asks_its_body = refl;
  a_map = refl;
  a_map_asks_its_property = refl;
  a_number_of_items = refl;
  a_choice = refl;
  a_nil_is_a_kind = refl;
  a_default = refl;
  a_default_asks_how_many = refl;
  items_with_one_member = refl;
  a_length = refl;
  a_first_item = refl;
  only_whether = refl;
  a_map_gone_over = refl;
}

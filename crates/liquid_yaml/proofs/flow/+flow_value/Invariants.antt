use Rattle.std.proofs.Common.{◌≡◌, ◌+◌, ◌*◌, false}
use Rattle.liquid_model.specs.Data.{no_pairs}
use Rattle.liquid_model.specs.View.{pairs_view}
use Rattle.liquid_yaml.specs.Bytes.{left_view}
use Rattle.liquid_yaml.specs.Flows.{flow_parts_left, flow_value, flow_items_of, members_by, text_with_parts}
use Rattle.liquid_yaml.proofs.Items.{before}
use Rattle.liquid_yaml.proofs.Parts.{size_left}
use Rattle.liquid_yaml.proofs.flow.+flow_value.Given as goal

-- what is left makes, after what is done, the whole
abbrev pub invariant-flow_list-loop-left : goal.invariant-flow_list-loop-left
invariant-flow_list-loop-left l =
    before l.values.items (flow_items_of (flow_value l.depth false) (flow_parts_left (left_view l.left))) ≡ flow_items_of (flow_value l.depth false) (flow_parts_left (text_with_parts l.fn.text))

abbrev pub invariant-flow_map-loop-left : goal.invariant-flow_map-loop-left
invariant-flow_map-loop-left l =
    members_by (flow_value l.depth false) (pairs_view l.members.entries) (flow_parts_left (left_view l.left)) ≡ members_by (flow_value l.depth false) no_pairs (flow_parts_left (text_with_parts l.fn.text))

abbrev pub decreases-flow_list-loop-left : goal.decreases-flow_list-loop-left
decreases-flow_list-loop-left l = size_left l.left

abbrev pub decreases-flow_map-loop-left : goal.decreases-flow_map-loop-left
decreases-flow_map-loop-left l = size_left l.left

abbrev pub decreases-flow_value : goal.decreases-flow_value
decreases-flow_value l = 3 * l.depth

abbrev pub decreases-flow_within : goal.decreases-flow_within
decreases-flow_within l = 3 * l.depth + 2

abbrev pub decreases-flow_list : goal.decreases-flow_list
decreases-flow_list l = 3 * l.depth + 1

abbrev pub decreases-flow_map : goal.decreases-flow_map
decreases-flow_map l = 3 * l.depth + 1

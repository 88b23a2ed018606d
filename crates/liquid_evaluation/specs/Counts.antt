-- How many nodes a tree has, in all depths: a node counts, and so do those of its bodies. An
-- `elsif` is a node of its own, a `when` is none.
use Rattle.std.specs.Prelude.{ℕ, ◌+◌}
use Rattle.liquid_evaluation.specs.Tree.{Node, if_true, unless, case_of, for_each, tablerow}
use Rattle.liquid_evaluation.specs.Tree.{capture, ifchanged, filtered, Nodes, no_nodes, node, Whens}
use Rattle.liquid_evaluation.specs.Tree.{no_whens, when}

unfoldable mutual
  pub count_of_nodes : Nodes → ℕ
  count_of_nodes no_nodes = 0
  count_of_nodes (node n more) = count_of_node n + count_of_nodes more

  pub count_of_node : Node → ℕ
  count_of_node (if_true condition body otherwise) =
      1 + (count_of_nodes body + count_of_nodes otherwise)
  count_of_node (unless condition body otherwise) =
      1 + (count_of_nodes body + count_of_nodes otherwise)
  count_of_node (case_of target whens otherwise) =
      1 + (count_of_whens whens + count_of_nodes otherwise)
  count_of_node (for_each name source window body otherwise) =
      1 + (count_of_nodes body + count_of_nodes otherwise)
  count_of_node (tablerow name source window columns body) = 1 + count_of_nodes body
  count_of_node (capture name body) = 1 + count_of_nodes body
  count_of_node (ifchanged body) = 1 + count_of_nodes body
  count_of_node (filtered filters body) = 1 + count_of_nodes body
  count_of_node _ = 1

  pub count_of_whens : Whens → ℕ
  count_of_whens no_whens = 0
  count_of_whens (when values body more) = count_of_nodes body + count_of_whens more

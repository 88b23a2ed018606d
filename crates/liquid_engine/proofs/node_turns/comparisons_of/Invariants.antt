use Rattle.std.proofs.Common.{◌≡◌, ◌+◌, ◌-◌, ◌^◌, ◌≤◌, drop, map}
use Rattle.liquid_evaluation.specs.ConditionView.{atoms_view, condition_view}
use Rattle.liquid_engine.specs.inside.NodeTurns.{comparisons, counted_turns}
use Rattle.liquid_engine.proofs.node_turns.comparisons_of.Given as goal

abbrev pub invariant-loop-conjunction : goal.invariant-loop-conjunction
invariant-loop-conjunction l = record {
  sums : counted_turns (comparisons (condition_view l.condition)) ≡ counted_turns (l.count + comparisons (map atoms_view (drop l.conjunction-index l.condition.conjunctions.items)));
  fits : l.count ≤ 2 ^ 64 - 1;
}

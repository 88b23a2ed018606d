use Rattle.std.proofs.Common.{◌≡◌, map, drop}
use Rattle.liquid_core.specs.States.{environment_of}
use Rattle.liquid_evaluation.specs.ConditionView.{atoms_view}
use Rattle.liquid_filter_sets.specs.Truths.{condition_holds}
use Rattle.liquid_filter_sets.proofs.truth.holds.Given as goal

-- what is left decides as the whole does
abbrev pub invariant-loop-conjunction : goal.invariant-loop-conjunction
invariant-loop-conjunction l =
    condition_holds (map atoms_view (drop l.conjunction-index l.condition.conjunctions.items)) (environment_of l.state) ≡ condition_holds (map atoms_view l.condition.conjunctions.items) (environment_of l.state)

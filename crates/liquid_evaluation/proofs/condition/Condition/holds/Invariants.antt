use Rattle.std.proofs.Common.{◌≡◌, map, drop}
use Rattle.liquid_core.specs.States.{environment_of}
use Rattle.liquid_evaluation.specs.ConditionView.{atoms_view}
use Rattle.liquid_evaluation.specs.Evaluation.{truth_of}
use Rattle.liquid_evaluation.proofs.condition.Condition.holds.Given as goal

-- what is left decides as the whole does
abbrev pub invariant-loop-conjunction : goal.invariant-loop-conjunction
invariant-loop-conjunction l =
    truth_of (map atoms_view (drop l.conjunction-index l.self.conjunctions.items)) (environment_of l.state) ≡ truth_of (map atoms_view l.self.conjunctions.items) (environment_of l.state)

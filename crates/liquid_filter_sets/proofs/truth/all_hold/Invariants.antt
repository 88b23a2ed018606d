use Rattle.std.proofs.Common.{◌≡◌, map, drop}
use Rattle.liquid_core.specs.States.{environment_of}
use Rattle.liquid_evaluation.specs.ConditionView.{atom_view}
use Rattle.liquid_filter_sets.specs.Truths.{all_hold}
use Rattle.liquid_filter_sets.proofs.truth.all_hold.Given as goal

-- what is left decides as the whole does
abbrev pub invariant-loop-atom : goal.invariant-loop-atom
invariant-loop-atom l =
    all_hold (map atom_view (drop l.atom-index l.atoms.items)) (environment_of l.state) ≡ all_hold (map atom_view l.atoms.items) (environment_of l.state)

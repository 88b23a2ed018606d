use Rattle.std.proofs.Common.{◌≡◌, true, drop, map}
use Rattle.liquid_evaluation.specs.ConditionView.{atom_view}
use Rattle.liquid_model.specs.UseViews.{uses_view}
use Rattle.liquid_meaning.specs.Reading.{grants_atoms}
use Rattle.liquid_uses.proofs.grants.atoms_granted.Given as goal

-- where those that are left pass, all do
abbrev pub invariant-loop-atom : goal.invariant-loop-atom
invariant-loop-atom l = grants_atoms (uses_view l.uses) (map atom_view (drop l.atom-index l.atom-items)) ≡ true → grants_atoms (uses_view l.uses) (map atom_view l.atom-items) ≡ true

use Rattle.std.proofs.Common.{◌≡◌, true, drop, map}
use Rattle.liquid_evaluation.specs.ConditionView.{atoms_view}
use Rattle.liquid_model.specs.UseViews.{uses_view}
use Rattle.liquid_meaning.specs.Reading.{grants_condition}
use Rattle.liquid_uses.proofs.grants.condition_granted.Given as goal

-- where those that are left pass, all do
abbrev pub invariant-loop-conjunction : goal.invariant-loop-conjunction
invariant-loop-conjunction l = grants_condition (uses_view l.uses) (map atoms_view (drop l.conjunction-index l.conjunction-items)) ≡ true → grants_condition (uses_view l.uses) (map atoms_view l.conjunction-items) ≡ true

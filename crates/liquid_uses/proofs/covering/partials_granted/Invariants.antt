use Rattle.std.proofs.Common.{◌≡◌, true}
use Rattle.liquid_model.specs.UseViews.{uses_view}
use Rattle.liquid_uses.specs.inside.OwnGrants.{slots_grant}
use Rattle.liquid_uses.proofs.covering.partials_granted.Given as goal

-- where those that are left pass, all do
abbrev pub invariant-loop-slot : goal.invariant-loop-slot
invariant-loop-slot l = slots_grant (uses_view l.uses) l.slot-iterator ≡ true → slots_grant (uses_view l.uses) l.initial.slot-iterator ≡ true

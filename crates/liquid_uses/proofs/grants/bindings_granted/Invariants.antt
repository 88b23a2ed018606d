use Rattle.std.proofs.Common.{◌≡◌, true, drop}
use Rattle.liquid_syntax.specs.Flats.{bindings_view}
use Rattle.liquid_model.specs.UseViews.{uses_view}
use Rattle.liquid_meaning.specs.Reading.{bound_use, grants_bindings}
use Rattle.liquid_uses.proofs.grants.bindings_granted.Given as goal

-- where those that are left pass, all do
abbrev pub invariant-loop-pair : goal.invariant-loop-pair
invariant-loop-pair l = grants_bindings (uses_view l.uses) (bound_use (uses_view l.uses)) (bindings_view (drop l.pair-index l.pairs)) ≡ true → grants_bindings (uses_view l.uses) (bound_use (uses_view l.uses)) (bindings_view l.pairs) ≡ true

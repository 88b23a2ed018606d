use Rattle.std.proofs.Common.{◌≡◌, true, drop}
use Rattle.liquid_syntax.specs.Flats.{bindings_view}
use Rattle.liquid_model.specs.UseViews.{uses_view}
use Rattle.liquid_meaning.specs.Reading.{all_of, grants_bindings}
use Rattle.liquid_uses.proofs.grants.bindings_whole.Given as goal

-- where those that are left pass, all do
abbrev pub invariant-loop-pair : goal.invariant-loop-pair
invariant-loop-pair l = grants_bindings (uses_view l.uses) all_of (bindings_view (drop l.pair-index l.pairs)) ≡ true → grants_bindings (uses_view l.uses) all_of (bindings_view l.pairs) ≡ true

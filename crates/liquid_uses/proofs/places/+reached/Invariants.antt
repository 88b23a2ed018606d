use Rattle.liquid_model.specs.UseViews.{uses_view}
use Rattle.liquid_uses.proofs.Steps.{LedSoFar}
use Rattle.liquid_uses.proofs.places.+reached.Given as goal

-- what the place gives along the steps that are left, the first gives along all of them
abbrev pub invariant-reached_along-loop-step : goal.invariant-reached_along-loop-step
invariant-reached_along-loop-step l = LedSoFar (uses_view l.uses) l.place l.initial.place l.step-items l.step-index

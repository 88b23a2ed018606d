use Rattle.std.proofs.Common.{◌≡◌, drop}
use Rattle.liquid_model.specs.View.{view}
use Rattle.liquid_core.specs.Environment.{Environment}
use Rattle.liquid_core.specs.ExpressionView.{steps_view}
use Rattle.liquid_core.specs.AlongSteps.{value_along_steps}
use Rattle.liquid_core.proofs.expression.direct_along.Given as goal

-- the steps that are left lead on to what all of them lead to
abbrev pub invariant-loop-index : goal.invariant-loop-index
invariant-loop-index l = (e : Environment) → value_along_steps (view l.found) (steps_view (drop l.index-index l.index-items)) e ≡ value_along_steps (view l.initial.found) (steps_view l.index-items) e

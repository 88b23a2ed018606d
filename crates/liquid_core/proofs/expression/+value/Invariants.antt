use Rattle.std.proofs.Common.{◌≡◌, drop}
use Rattle.liquid_core.specs.ExpressionView.{steps_view}
use Rattle.liquid_core.specs.Resolved.{resolved_view, IsAmong}
use Rattle.liquid_core.specs.States.{environment_of, loops_of}
use Rattle.liquid_core.specs.AlongSteps.{value_along_steps}
use Rattle.liquid_core.proofs.expression.+value.Given as goal

-- the steps that are left lead on to what all of them lead to
abbrev pub invariant-variable_value-loop-index : goal.invariant-variable_value-loop-index
invariant-variable_value-loop-index l =
    (value_along_steps (resolved_view l.found) (steps_view (drop l.index-index l.index-items)) (environment_of l.state) ≡ value_along_steps (resolved_view l.initial.found) (steps_view l.index-items) (environment_of l.state))
    × IsAmong (loops_of l.state) l.state.scopes.items l.found

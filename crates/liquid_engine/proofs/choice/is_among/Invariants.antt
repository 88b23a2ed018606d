use Rattle.std.proofs.Common.{◌≡◌, drop, map}
use Rattle.liquid_model.specs.View.{view}
use Rattle.liquid_core.specs.ExpressionView.{expression_view}
use Rattle.liquid_core.specs.States.{environment_of}
use Rattle.liquid_engine.specs.inside.Choices.{equal_among}
use Rattle.liquid_engine.proofs.choice.is_among.Given as goal

abbrev pub invariant-loop-value : goal.invariant-loop-value
invariant-loop-value l = equal_among (view l.target) (map expression_view l.values) (environment_of l.state) ≡ equal_among (view l.target) (map expression_view (drop l.value-index l.values)) (environment_of l.state)

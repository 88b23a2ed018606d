use Rattle.std.proofs.Common.{List, drop, ◌≤◌}
use Rattle.liquid_model.specs.Texts.{Text}
use Rattle.liquid_model.specs.View.{view}
use Rattle.liquid_core.specs.States.{environment_of}
use Rattle.liquid_engine.specs.inside.Choices.{Meant, CaseLeft}
use Rattle.liquid_engine.proofs.choice.arm_range.Given as goal

-- what is left of the `case` is what it was, without the parts that were passed
abbrev pub invariant-loop-arm : goal.invariant-loop-arm
invariant-loop-arm l = record {
  ordered : l.first ≤ l.from;
  left : (names : List Text) (meant : Meant) → CaseLeft l.nodes (environment_of l.state) names meant (view l.wanted) l.arms l.first l.last
      → CaseLeft l.nodes (environment_of l.state) names meant (view l.wanted) (drop l.arm-index l.arms) l.from l.last;
}

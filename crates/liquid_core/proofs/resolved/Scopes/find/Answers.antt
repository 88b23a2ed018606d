use Rattle.std.proofs.Common.{arith, reverse, map, ◌-◌, ◌∙◌}
use Rattle.liquid_core.specs.Held.{held}
use Rattle.liquid_core.specs.Resolved.{resolved_view}
use Rattle.liquid_core.proofs.LoopFrames.{found_here, missing_here}
use Rattle.liquid_core.proofs.resolved.Scopes.find.Goals as goal

pub returns-in-Some-clause-value : goal.returns-in-Some-clause-value
returns-in-Some-clause-value c =
    found_here c.args.name.now c.args.self.frames.now c.loop-left.left (c.loop-left.left - 1) (reverse (map held c.args.self.outer.now)) (resolved_view c.in-Some.resolved) (omega arith) (omega (arith, c.loop-left.invariant.0)) c.in-Some.ensures.value
    ∙ c.loop-left.invariant.1

pub loop-left-preserved : goal.loop-left-preserved
loop-left-preserved c = (
  omega (arith, c.loop-left.invariant.0),
  missing_here c.args.name.now c.args.self.frames.now c.loop-left.left (c.loop-left.left - 1) (reverse (map held c.args.self.outer.now)) (omega arith) (omega (arith, c.loop-left.invariant.0)) c.in_default.ensures.value
      ∙ c.loop-left.invariant.1,
)

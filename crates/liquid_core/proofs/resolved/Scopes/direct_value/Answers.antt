use Rattle.std.proofs.Common.{◌≡◌, ◌-◌, arith, rules, get_or, reverse, map, ◌∙◌}
use Rattle.liquid_core.specs.Held.{held}
use Rattle.liquid_core.proofs.DirectValues.{nothing_here, directly_here}
use Rattle.liquid_core.proofs.resolved.Scopes.direct_value.Goals as goal

pub loop-left-preserved : goal.loop-left-preserved
loop-left-preserved c =
    let s = c.index-frames-last.result in
    let at : s ≡ get_or c.args.self.frames.now (c.loop-left.left - 1) s = search rules in (
      omega (arith, c.loop-left.invariant.0),
      nothing_here c.args.name.now c.args.self.frames.now c.loop-left.left (c.loop-left.left - 1) (reverse (map held c.args.self.outer.now)) s (omega arith) (omega (arith, c.loop-left.invariant.0)) at c.in-Nothing.ensures
          ∙ c.loop-left.invariant.1,
    )

pub returns-in_default : goal.returns-in_default
returns-in_default c =
    let s = c.index-frames-last.result in
    let at : s ≡ get_or c.args.self.frames.now (c.loop-left.left - 1) s = search rules in
    directly_here c.args.name.now c.args.self.frames.now c.loop-left.left (c.loop-left.left - 1) (reverse (map held c.args.self.outer.now)) s (omega arith) (omega (arith, c.loop-left.invariant.0)) at c.direct_value.result _ _ c.direct_value.ensures c.loop-left.invariant.1 c.in_default.not-Nothing

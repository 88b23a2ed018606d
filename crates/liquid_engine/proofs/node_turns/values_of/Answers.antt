use Rattle.std.proofs.Common.{◌+◌, ◌∙◌, sym, ap}
use Rattle.std.proofs.lemmas.List.{drop_all}
use Rattle.liquid_syntax.specs.Flats.{arm_values}
use Rattle.liquid_engine.specs.inside.NodeTurns.{counted_turns, listed_values}
use Rattle.liquid_engine.proofs.NodeTurns.{counted_whole}
use Rattle.liquid_engine.proofs.node_turns.values_of.Goals as goal

pub returns : goal.returns
returns c =
    sym (c.loop-arm.invariant.sums ∙ ap (λ l. counted_turns (c.loop-arm.count + listed_values (arm_values l))) (drop_all c.loop-arm.arm-index c.args.arms.now c.loop-arm-test.false)
    ∙ counted_whole c.loop-arm.count c.loop-arm.invariant.fits)

use Rattle.liquid_core.specs.LoopFrames.{frame_object}
use Rattle.liquid_core.proofs.DirectValues.{directly_by_literal}
use Rattle.liquid_core.proofs.expression.direct_part_by.Goals as goal

pub returns-in-Literal : goal.returns-in-Literal
returns-in-Literal c e local =
    directly_by_literal c.direct_stepped.result (frame_object c.args.frame.now local) c.args.index.now c.in-Literal.part e c.in-Literal.is (c.direct_stepped.ensures local)

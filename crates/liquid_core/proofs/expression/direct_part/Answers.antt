use Rattle.std.proofs.Common.{arith, Some, None}
use Rattle.std.specs.Option.{option_and_then}
use Rattle.liquid_model.specs.Find.{step}
use Rattle.liquid_core.specs.Expressions.{value_of}
use Rattle.liquid_core.specs.ExpressionView.{expression_view, steps_view}
use Rattle.liquid_core.specs.AlongSteps.{value_along_steps}
use Rattle.liquid_core.specs.LoopFrames.{frame_object}
use Rattle.liquid_core.proofs.DirectValues.{directly_as, lone_step}
use Rattle.liquid_core.proofs.expression.direct_part.Goals as goal

pub returns-in-len1 : goal.returns-in-len1
returns-in-len1 c e local =
    let d = frame_object c.args.frame.now local in
    let x = c.index-item.result in
    let xs = c.args.indexes.now in
    directly_as c.direct_part_by.result (option_and_then (step d) (value_of (expression_view x) e)) (value_along_steps d (steps_view xs) e) None
    (lone_step d x xs e (omega arith) (omega arith) c.index-item.is) (c.direct_part_by.ensures e local)

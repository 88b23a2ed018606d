use Rattle.std.proofs.Common.{◌+◌, length, ◌*◌}
use Rattle.liquid_core.specs.Resolved.{depth}
use Rattle.liquid_core.proofs.+object.Given as goal

abbrev pub decreases-resolved::Resolved::into_value : goal.decreases-resolved::Resolved::into_value
decreases-resolved::Resolved::into_value l = 2 * depth l.self

abbrev pub decreases-frame::LoopFrame::object : goal.decreases-frame::LoopFrame::object
decreases-frame::LoopFrame::object l = 2 * length l.enclosing.frames.now + 1

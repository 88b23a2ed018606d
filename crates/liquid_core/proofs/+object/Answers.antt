use Rattle.std.proofs.Common.{arith, rules}
use Rattle.liquid_core.proofs.+object.Goals as goal

-- src/resolved.rt:288:74
pub resolved::Resolved::into_value-object-requires : goal.resolved::Resolved::into_value-object-requires
resolved::Resolved::into_value-object-requires t c = search (rules, arith)

-- src/resolved.rt:125:35
pub frame::LoopFrame::object-into_value-requires : goal.frame::LoopFrame::object-into_value-requires
frame::LoopFrame::object-into_value-requires t c = search (rules, arith)

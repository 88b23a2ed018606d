use Rattle.liquid_syntax.proofs.Calling.{First}
use Rattle.liquid_syntax.proofs.called.Called.add_calls.Given as goal

-- what was gathered of the nodes before this one
abbrev pub invariant-loop-node : goal.invariant-loop-node
invariant-loop-node l = First l.fn.self l.nodes l.node-index l.self

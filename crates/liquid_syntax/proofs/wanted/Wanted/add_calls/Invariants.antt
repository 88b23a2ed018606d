use Rattle.liquid_syntax.specs.Reached.{Widens}
use Rattle.liquid_syntax.proofs.Wanting.{FirstSettled}
use Rattle.liquid_syntax.proofs.wanted.Wanted.add_calls.Given as goal

-- the nodes before this one are settled
abbrev pub invariant-loop-node : goal.invariant-loop-node
invariant-loop-node l = Widens l.fn.self l.self × FirstSettled l.self l.nodes l.node-index

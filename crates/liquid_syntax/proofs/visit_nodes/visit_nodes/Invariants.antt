use Rattle.std.proofs.Common.{drop}
use Rattle.liquid_syntax.specs.inside.Mentions.{list_names}
use Rattle.liquid_syntax.proofs.visit_nodes.visit_nodes.Given as goal

-- what telling the rest does is what telling all of them does
abbrev pub invariant-loop-node : goal.invariant-loop-node
invariant-loop-node g l = (r : _) (w : _) → g.V.NameVisitor.tells l.visitor (list_names (drop l.node-index l.nodes)) r w → g.V.NameVisitor.tells l.fn.visitor (list_names l.nodes) r w

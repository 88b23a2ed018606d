use Rattle.std.proofs.Common.{◌∙◌, subst}
use Rattle.liquid_engine.specs.Limits.{TakesTurns}
use Rattle.liquid_engine.specs.inside.NodeTurns.{counted_turns, node_turns}
use Rattle.liquid_engine.proofs.NodeTurns.{ok_each, takes_any}
use Rattle.liquid_engine.proofs.node_turns.turns_of_node.Goals as goal
use Rattle.liquid_engine.proofs.node_turns.turns_of_node.Goals.{then-counts_turns, else-counts_turns}

pub returns-clause-takes : goal.returns-clause-takes
returns-clause-takes g c =
    let old = g.W.CountedWrite.left c.args.out.now.writer.now in
    let new = g.W.CountedWrite.left c.turns.new.self.writer.now in
    ok_each c.turns.result c.turns.ensures.takes (λ taken n next there. elim c.if-counts_turns.branch [
      | then-counts_turns w ↦ subst (λ k. TakesTurns k old new) (w.count-is ∙ w.turns_at-count.ensures n next there) taken
      | else-counts_turns w ↦ takes_any c.if-counts_turns.count (counted_turns (node_turns n)) old new (c.counts_turns.ensures w.if-counts_turns.false) taken
    ])

use Rattle.std.proofs.Common.{◌≡◌, ◌+◌, ◌∙◌, sym, ap, drop, arith}
use Rattle.std.proofs.lemmas.List.{at_drop_all}
use Rattle.liquid_c.specs.Levels.{levels_from, levels_in, levels_with_node}
use Rattle.liquid_c.proofs.Blocks.{next}
use Rattle.liquid_c.proofs.levels.levels_in.Goals as goal

pub loop-at-init : goal.loop-at-init
unfolding levels_in
loop-at-init c = ap (λ os. levels_from 0 os (record { lists = 1; calls = 0 }) c.args.nodes.now) (sym c.new-open.ensures)

pub loop-at-preserved : goal.loop-at-preserved
loop-at-preserved c =
    c.loop-at.invariant
    ∙ next c.args.nodes.now c.loop-at.at c.index-nodes-at.result c.loop-at.open c.close_ended.new.open c.open_block.new.open c.loop-at.levels c.with_node-levels.result (omega arith) c.index-nodes-at.is c.close_ended.ensures c.in_ok-open_block.ensures
    (c.with_node-levels.ensures ∙ ap (λ k. levels_with_node c.index-nodes-at.result (k + 1) c.loop-at.levels) c.len.ensures.value)

pub returns : goal.returns
returns c = sym (c.loop-at.invariant ∙ at_drop_all (levels_from c.loop-at.at c.loop-at.open c.loop-at.levels) c.args.nodes.now c.loop-at.at (omega arith))

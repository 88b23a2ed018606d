use Rattle.liquid_filters.proofs.Sentences.{turn}
use Rattle.liquid_filters.proofs.jekyll.array.sentence.sentence.Goals as goal

pub items-preserved : goal.items-preserved
items-preserved c =
    turn c.args.connector.now c.items.left.now c.in-Some-split_first.after.now c.in-Some-split_first.item.now _ _ _ _ c.in-Some-split_first.ensures.cases.0 c.is_empty.ensures c.in_ok-push_next.ensures c.items.invariant

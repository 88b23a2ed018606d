use Rattle.std.proofs.Common.{rules, arith, ◌≡◌, ap, ◌∙◌}
use Rattle.liquid_model.specs.Data.{nil}
use Rattle.liquid_model.specs.View.{view}
use Rattle.liquid_model.specs.declared.value.Value.{the_lemmas}
use Rattle.liquid_model.specs.declared.value.Value.TheVariants.{Nil}
use Rattle.liquid_evaluation.proofs.RangeParts.{item_past}
use Rattle.liquid_evaluation.proofs.range.item_at.Goals as goal
use Rattle.liquid_core.proofs.LoopFrames.{item_within}

pub returns-then-place-len : goal.returns-then-place-len
returns-then-place-len c = ap view c.index.ensures ∙ item_within c.args.items.now.items c.args.place c.index.result.now (omega arith)

pub returns-else-place-len : goal.returns-else-place-len
returns-else-place-len c =
    let empty : view Nil ≡ nil = search (rules, the_lemmas) in
    empty ∙ item_past c.args.items.now.items c.args.place (omega arith)

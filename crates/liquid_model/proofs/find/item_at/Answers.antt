use Rattle.std.proofs.Common.{Some, ap, ◌∙◌, arith}
use Rattle.liquid_model.specs.View.{view}
use Rattle.liquid_model.proofs.Views.{item_at_within, item_at_past}
use Rattle.liquid_model.proofs.find.item_at.Goals as goal

pub returns-then-place-len : goal.returns-then-place-len
returns-then-place-len c = ap (λ v. Some (view v)) c.index.ensures ∙ item_at_within c.args.items.now.items c.args.place c.index.result.now (omega arith)

pub returns-else-place-len : goal.returns-else-place-len
returns-else-place-len c = item_at_past c.args.items.now.items c.args.place (omega arith)

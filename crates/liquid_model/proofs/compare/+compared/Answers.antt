use Rattle.std.proofs.Common.{rules, ap, sym, ◌≡◌, ◌∙◌, ◌∷◌, ◌+◌, get_or, drop, arith}
use Rattle.std.proofs.lemmas.List.{drop_more}
use Rattle.liquid_model.specs.Order.{same}
use Rattle.liquid_model.specs.View.{view}
use Rattle.liquid_model.proofs.Compares.{items_compare_next, unnot}
use Rattle.liquid_model.proofs.compare.+compared.Goals as goal

pub compared_items-loop-x-preserved : goal.compared_items-loop-x-preserved
compared_items-loop-x-preserved t c =
    let xs = c.deref-x-items.result.now in
    let i = c.loop-x.x-index in
    let x = c.x-item.result in
    let y = c.in-Some.y.now in
    let at : x ≡ get_or xs i x = search rules in
    let next : drop i xs ≡ x ∷ drop (i + 1) xs = drop_more xs i x (omega arith) ∙ ap (λ z. z ∷ drop (i + 1) xs) (sym at) in
    items_compare_next (drop i xs) c.loop-x.others.rest.now (drop (i + 1) xs) c.next.new.self.rest.now x y next c.in-Some.ensures.steps (unnot (same (view x) (view y)) c.if-ne.ensures) ∙ c.loop-x.invariant

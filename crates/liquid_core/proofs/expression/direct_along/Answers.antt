use Rattle.std.proofs.Common.{◌≡◌, ◌+◌, ◌∷◌, get_or, drop, sym, ap, ◌∙◌, arith, rules}
use Rattle.std.proofs.lemmas.List.{drop_more, drop_all}
use Rattle.liquid_model.specs.View.{view}
use Rattle.liquid_core.specs.ExpressionView.{steps_view}
use Rattle.liquid_core.specs.AlongSteps.{value_along_steps}
use Rattle.liquid_core.proofs.ExpressionViews.{no_more}
use Rattle.liquid_core.proofs.DirectValues.{along_step}
use Rattle.liquid_core.proofs.expression.direct_along.Goals as goal

pub returns : goal.returns
returns c e =
    let xs = c.deref-index-items.result.now in
    no_more (view c.loop-index.found.now) _ e (drop_all c.loop-index.index-index xs (omega arith))
    ∙ c.loop-index.invariant e
    ∙ ap (λ l. value_along_steps (view c.args.value.now) (steps_view l) e) c.deref-index-items.ensures.value

pub loop-index-preserved : goal.loop-index-preserved
loop-index-preserved c e =
    let xs = c.deref-index-items.result.now in
    let i = c.loop-index.index-index in
    let x = c.index-item.result in
    let at : x ≡ get_or xs i x = search rules in
    let next : drop i xs ≡ x ∷ drop (i + 1) xs = drop_more xs i x (omega arith) ∙ ap (λ z. z ∷ drop (i + 1) xs) (sym at) in
    along_step (view c.loop-index.found.now) (view c.in_ok-found.found.now) x (drop i xs) (drop (i + 1) xs) e next (c.in_ok-found.ensures e)
    ∙ c.loop-index.invariant e

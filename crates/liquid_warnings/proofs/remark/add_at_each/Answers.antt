use Rattle.std.proofs.Common.{◌≡◌, ◌+◌, ◌∷◌, ◌++◌, get_or, drop, sym, ap, ◌∙◌, arith, rules}
use Rattle.std.proofs.lemmas.List.{drop_more}
use Rattle.liquid_warnings.specs.Remarks.{all_said}
use Rattle.liquid_warnings.specs.inside.Added.{said_at_each}
use Rattle.liquid_warnings.proofs.AddedRemarks.{said_one_more}
use Rattle.liquid_warnings.proofs.remark.add_at_each.Goals as goal

pub loop-place-preserved : goal.loop-place-preserved
loop-place-preserved c =
    let xs = c.args.places.now in
    let i = c.loop-place.place-index in
    let x = c.place-item.result in
    let k = c.args.kind.now in
    let m = c.args.message.now in
    let at : x ≡ get_or xs i x = search rules in
    let next : drop i xs ≡ x ∷ drop (i + 1) xs = drop_more xs i x (omega arith) ∙ ap (λ z. z ∷ drop (i + 1) xs) (sym at) in
    said_one_more _ _ _ _ k m x (drop (i + 1) xs)
    (c.loop-place.invariant ∙ ap (λ l. all_said c.loop-place.remarks.items ++ said_at_each k m l) next) c.in_ok-push.ensures.items c.in_ok-at.ensures

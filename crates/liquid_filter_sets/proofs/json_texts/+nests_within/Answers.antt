use Rattle.std.proofs.Common.{◌&&◌, nat_le, [], ◌∷◌, ◌++◌, take, sym, ap, ◌∙◌, subst, append_assoc}
use Rattle.std.proofs.lemmas.List.{take_more}
use Rattle.liquid_model.specs.View.{view, items_view}
use Rattle.liquid_model.proofs.Views.{Entry}
use Rattle.liquid_filter_sets.specs.ReadBack.{datum_depth}
use Rattle.liquid_filter_sets.proofs.ValueParts.{ItemsSeen, one_more_item, one_more_pair, ascending}
use Rattle.liquid_filter_sets.proofs.json_texts.+nests_within.Goals as goal

pub items_nest_within-loop-item-preserved : goal.items_nest_within-loop-item-preserved
items_nest_within-loop-item-preserved t c =
    let vs = c.deref-item-items.result.now in
    let i = c.loop-item.item-index in
    let v = c.item-item.result in
    let next = c.nests_within-within.result in
    let more = take_more vs i v c.loop-item-test.true ∙ ap (λ u. take i vs ++ u ∷ []) (sym c.item-item.is) in
    let seen = one_more_item (take i vs) v c.args.most c.loop-item.within next c.loop-item.invariant
    (c.nests_within-within.ensures.within ∙ ap (nat_le (datum_depth (view v))) c.saturating_sub.ensures) c.nests_within-within.ensures.held in
    subst (λ us. ItemsSeen (items_view us) c.args.most (c.loop-item.within && next)) (sym more) seen

pub pairs_nest_within-loop-key-preserved : goal.pairs_nest_within-loop-key-preserved
pairs_nest_within-loop-key-preserved t c =
    let l = c.loop-key in
    let done = l.invariant.0 in
    let e : Entry = (c.in-Some._key.now, c.in-Some.value.now) in
    let left = c.next.new.self in
    let all = l.invariant.1 ∙ ap (λ es. done ++ es) c.in-Some.ensures.steps in (
      done ++ e ∷ [],
      all ∙ sym (append_assoc done (e ∷ []) left),
      one_more_pair done e c.args.most l.within c.nests_within-within.result l.invariant.2
          (c.nests_within-within.ensures.within ∙ ap (nat_le (datum_depth (view c.in-Some.value.now))) c.saturating_sub.ensures) c.nests_within-within.ensures.held,
    )

pub pairs_nest_within-returns-clause-ordered : goal.pairs_nest_within-returns-clause-ordered
pairs_nest_within-returns-clause-ordered t c = ascending c.args.pairs.now.entries c.iter-key-items.ensures.ordered

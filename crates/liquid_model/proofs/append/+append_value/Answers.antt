use Rattle.std.proofs.Common.{◌≡◌, string_bytes, ◌+◌, ◌++◌, ◌∷◌, drop, ap, sym, subst, ◌∙◌, rules}
use Rattle.std.proofs.lemmas.List.{drop_more}
use Rattle.std.proofs.lemmas.Result.{err_from_is_err_and}
use Rattle.liquid_model.specs.Appended.{Begun}
use Rattle.liquid_model.specs.Data.{items_text, pairs_text}
use Rattle.liquid_model.specs.View.{items_view, pairs_view}
use Rattle.liquid_model.proofs.Appending.{Going, going_on, going_wrong, next_pair}
use Rattle.liquid_model.proofs.append.+append_value.Goals as goal

pub append_items-returns-in_err-append_value : goal.append_items-returns-in_err-append_value
append_items-returns-in_err-append_value t c =
    let p = err_from_is_err_and c.from_residual.result c.from_residual.ensures.1 in
    let items = c.deref-item-items.result.now in
    let i = c.loop-item.item-index in
    let item = c.item-item.result in
    let rest : drop i items ≡ item ∷ drop (i + 1) items = drop_more items i item c.loop-item-test.true ∙ ap (λ x. x ∷ drop (i + 1) items) (sym c.item-item.is) in
    let left = subst (λ xs. Going (string_bytes c.args.out.now) (string_bytes c.loop-item.out) (items_text (items_view items)) (items_text (items_view xs))) rest c.loop-item.invariant in
    let wrong = c.in_err-append_value.ensures in
    let begun = going_wrong _ _ _ _ _ _ left wrong.1 in
    rw (p.1, p.2) (wrong.0, subst (λ xs. Begun (string_bytes c.args.out.now) (string_bytes c.append_value.new.out) (items_text (items_view xs))) c.deref-item-items.ensures.value begun)

pub append_pairs-returns-in_err-append_str : goal.append_pairs-returns-in_err-append_str
append_pairs-returns-in_err-append_str t c =
    let p = err_from_is_err_and c.from_residual.result c.from_residual.ensures.1 in
    let rest : c.loop-key.key-iterator ≡ (c.in-Some.key.now, c.in-Some.value.now) ∷ c.next.new.self = search rules in
    let all : c.into_iter-key-iterator.result ≡ c.args.pairs.now.entries = search rules in
    let key : c.as_str.result.now ≡ string_bytes c.in-Some.key.now = c.as_str.ensures.value in
    let wrong = c.in_err-append_str.ensures in
    let begun = going_wrong _ _ _ _ _ _ (next_pair _ c.in-Some.key.now c.in-Some.value.now c.next.new.self _ _ _ rest c.loop-key.invariant) (subst (λ k. Begun (string_bytes c.loop-key.out) (string_bytes c.append_str.new.out) k) key wrong.1) in
    rw (p.1, p.2) (wrong.0, subst (λ es. Begun (string_bytes c.args.out.now) (string_bytes c.append_str.new.out) (pairs_text (pairs_view es))) all begun)

pub append_pairs-loop-key-preserved : goal.append_pairs-loop-key-preserved
append_pairs-loop-key-preserved t c =
    let rest : c.loop-key.key-iterator ≡ (c.in-Some.key.now, c.in-Some.value.now) ∷ c.next.new.self = search rules in
    let key : c.as_str.result.now ≡ string_bytes c.in-Some.key.now = c.as_str.ensures.value in
    let keyed = going_on _ _ _ _ _ _ (next_pair _ c.in-Some.key.now c.in-Some.value.now c.next.new.self _ _ _ rest c.loop-key.invariant) (c.in_ok-append_str.ensures ∙ ap (λ k. string_bytes c.loop-key.out ++ k) key) in
    going_on _ _ _ _ _ _ keyed c.in_ok-append_value.ensures

pub append_pairs-returns-in_err-append_value : goal.append_pairs-returns-in_err-append_value
append_pairs-returns-in_err-append_value t c =
    let p = err_from_is_err_and c.from_residual-in_err-append_value.result c.from_residual-in_err-append_value.ensures.1 in
    let rest : c.loop-key.key-iterator ≡ (c.in-Some.key.now, c.in-Some.value.now) ∷ c.next.new.self = search rules in
    let all : c.into_iter-key-iterator.result ≡ c.args.pairs.now.entries = search rules in
    let key : c.as_str.result.now ≡ string_bytes c.in-Some.key.now = c.as_str.ensures.value in
    let keyed = going_on _ _ _ _ _ _ (next_pair _ c.in-Some.key.now c.in-Some.value.now c.next.new.self _ _ _ rest c.loop-key.invariant) (c.in_ok-append_str.ensures ∙ ap (λ k. string_bytes c.loop-key.out ++ k) key) in
    let wrong = c.in_err-append_value.ensures in
    let begun = going_wrong _ _ _ _ _ _ keyed wrong.1 in
    rw (p.1, p.2) (wrong.0, subst (λ es. Begun (string_bytes c.args.out.now) (string_bytes c.append_value.new.out) (pairs_text (pairs_view es))) all begun)

use Rattle.std.proofs.Common.{◌≡◌, [], length, string_bytes, sym, ap, ◌∙◌, arith}
use Rattle.std.proofs.lemmas.List.{nil_from_length}
use Rattle.std.specs.Vec.Iter.{into_iter_items}
use Rattle.liquid_model.specs.Data.{item, put}
use Rattle.liquid_model.specs.View.{pairs_view}
use Rattle.liquid_model.proofs.Views.{pairs_view-insert_entry}
use Rattle.liquid_data.specs.TomlData.{toml_list_items, pairs_from}
use Rattle.liquid_data.proofs.After.{after, after_next, after_none}
use Rattle.toml.specs.View.{items_view as toml_items, members_view as toml_members}
use Rattle.liquid_data.proofs.toml_data.+value_of.Goals as goal

pub items_of-loop-item-preserved : goal.items_of-loop-item-preserved
items_of-loop-item-preserved t c =
    let done = c.loop-item.values.items in
    let left = into_iter_items c.next.new.self in
    record {
      counted = omega (arith, c.in-Some.ensures.steps.1, c.loop-item.invariant.counted, ap length c.in-Some.ensures.steps.0);
      whole = rw c.in_ok-push.ensures.items (
          sym (after_next done c.in_ok-value_of.field-0 (toml_list_items (toml_items left)))
          ∙ ap (λ d. after done (item d (toml_list_items (toml_items left)))) c.in_ok-value_of.ensures
          ∙ ap (λ vs. after done (toml_list_items (toml_items vs))) (sym c.in-Some.ensures.steps.0)
          ∙ c.loop-item.invariant.whole);
    }

pub items_of-returns : goal.items_of-returns
items_of-returns t c =
    let none : into_iter_items c.loop-item.item-iterator ≡ [] = nil_from_length _ (sym c.loop-item.invariant.counted ∙ (c.in-None.ensures {u = tt}).steps.0) in
    sym (after_none c.loop-item.values.items) ∙ ap (λ vs. after c.loop-item.values.items (toml_list_items (toml_items vs))) (sym none) ∙ c.loop-item.invariant.whole

pub pairs_of-loop-key-preserved : goal.pairs_of-loop-key-preserved
pairs_of-loop-key-preserved t c =
    let old = c.loop-key.pairs.entries in
    let put_in = ap pairs_view c.in_ok-insert.ensures.entries ∙ pairs_view-insert_entry old c.in-Some.key c.in_ok-value_of.field-0
    ∙ ap (λ d. put (string_bytes c.in-Some.key) d (pairs_view old)) c.in_ok-value_of.ensures in
    ap (λ ps. pairs_from ps (toml_members c.next.new.self)) put_in
    ∙ ap (λ es. pairs_from (pairs_view old) (toml_members es)) (sym c.in-Some.ensures.steps)
    ∙ c.loop-key.invariant

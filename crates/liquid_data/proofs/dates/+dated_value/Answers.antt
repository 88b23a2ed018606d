use Rattle.std.proofs.Common.{◌≡◌, [], ◌∷◌, ◌++◌, length, string_bytes, sym, ap, ◌∙◌, subst, append_assoc, arith, rules}
use Rattle.std.proofs.lemmas.List.{nil_from_length}
use Rattle.std.specs.List.Sorted.{IsStrictlySortedBy}
use Rattle.std.specs.Map.{keys_of}
use Rattle.std.specs.String.{string_cmp}
use Rattle.std.specs.Vec.Iter.{into_iter_items}
use Rattle.liquid_model.specs.Data.{item}
use Rattle.liquid_model.specs.View.{view, items_view, pairs_view}
use Rattle.liquid_model.proofs.Views.{Entry, pairs_view-insert_entry}
use Rattle.liquid_json.proofs.After.{after, after_next, after_none}
use Rattle.liquid_data.specs.Dates.{dated_items, dated_pairs}
use Rattle.liquid_data.proofs.Members.{dated_last}
use Rattle.liquid_data.proofs.dates.+dated_value.Goals as goal

pub dated_items-loop-item-preserved : goal.dated_items-loop-item-preserved
dated_items-loop-item-preserved t c =
    let done = c.loop-item.found.items in
    let left = into_iter_items c.next.new.self in
    record {
      counted = omega (arith, c.in-Some.ensures.steps.1, c.loop-item.invariant.counted, ap length c.in-Some.ensures.steps.0);
      whole = rw c.in_ok-push.ensures.items (
          sym (after_next done c.in_ok-dated_value.field-0 (dated_items (items_view left)))
          ∙ ap (λ d. after done (item d (dated_items (items_view left)))) c.in_ok-dated_value.ensures
          ∙ ap (λ vs. after done (dated_items (items_view vs))) (sym c.in-Some.ensures.steps.0)
          ∙ c.loop-item.invariant.whole);
    }

pub dated_items-returns : goal.dated_items-returns
dated_items-returns t c =
    let none : into_iter_items c.loop-item.item-iterator ≡ [] = nil_from_length _ (sym c.loop-item.invariant.counted ∙ (c.in-None.ensures {u = tt}).steps.0) in
    sym (after_none c.loop-item.found.items) ∙ ap (λ vs. after c.loop-item.found.items (dated_items (items_view vs))) (sym none) ∙ c.loop-item.invariant.whole

pub dated-loop-name-preserved : goal.dated-loop-name-preserved
dated-loop-name-preserved t c =
    let l = c.loop-name in
    let done = l.invariant.0 in
    let e : Entry = (c.in-Some.name, c.in-Some.value) in
    let left = c.next.new.self in
    let all : c.args.data.entries ≡ done ++ e ∷ left = l.invariant.1 ∙ ap (λ es. done ++ es) c.in-Some.ensures.steps in
    let sorted : IsStrictlySortedBy string_cmp (keys_of c.args.data.entries) = search rules in
    let last = dated_last done e left (subst (λ es. IsStrictlySortedBy string_cmp (keys_of es)) all sorted) in (
      done ++ e ∷ [],
      all ∙ sym (append_assoc done (e ∷ []) left),
      ap pairs_view c.in_ok-insert.ensures.entries ∙ pairs_view-insert_entry l.found.entries c.in-Some.name c.in_ok-dated_value.field-0 ∙ rw (c.in_ok-dated_value.ensures, l.invariant.2) last,
    )

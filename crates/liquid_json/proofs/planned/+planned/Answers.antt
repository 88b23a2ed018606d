use Rattle.std.proofs.Common.{true, ◌≡◌, ◌-◌, ◌<◌, ◌≤◌, ◌∷◌, length, take, Some, None, refl, sym, ap, ◌∙◌, arith, rules}
use Rattle.std.specs.Prelude.{IfOk}
use Rattle.std.proofs.lemmas.Result.{IfOk-weaker}
use mathlib.Core.Path.{subst}
use Rattle.json.specs.Json.{parse_map, after_end_array, read_key, items, members, value}
use Rattle.json.specs.Reads.{token_of}
use Rattle.json.proofs.Grammar.{value-begin_array, value-begin_object, read_key-shorter}
use Rattle.serde_json.specs.Read.{converted}
use Rattle.liquid_model.specs.Data.{array, object, no_pairs, item, no_items, put}
use Rattle.liquid_model.specs.View.{view, items_view, pairs_view}
use Rattle.liquid_model.specs.declared.value.Value.{Array, Object}
use Rattle.liquid_model.specs.Find.{value_at}
use Rattle.liquid_model.specs.Skipping.{AlikeKeys}
use Rattle.liquid_json.specs.inside.Planned.{IsPlanned, AreFirstItems}
use Rattle.liquid_model.proofs.UseViews.{found_use, view-Nothing, view-Parts}
use Rattle.liquid_model.proofs.Views.{view-Array, view-Object}
use Rattle.liquid_model.specs.Uses.{parts, uncounted, up_to, Alike}
use Rattle.liquid_model.specs.Projected.{pairs_wanted}
use Rattle.liquid_model.proofs.Alike.{alike_equal}
use Rattle.liquid_model.proofs.AlikeLists.{list_lengths}
use Rattle.liquid_json.proofs.FirstItems.{first_none, first_kept, first_skipped, none_left, first_are}
use Rattle.liquid_model.proofs.Skipping.{put_in_both, put_in_one}
use Rattle.liquid_model.specs.UseViews.{use_view, members_view, turns_view}
use Rattle.liquid_json.specs.PlainUses.{is_plain_use}
use Rattle.liquid_json.specs.inside.Tokens.{datum_of, datum_at}
use Rattle.liquid_json.specs.declared.tokens.Numbers.TheVariants.{Integers}
use Rattle.liquid_model.specs.Lists.{list_of}
use Rattle.liquid_json.specs.Under.{KeysUnder, Under, is_same, is_unread, is_beginning, has_some_members, are_left}
use Rattle.liquid_json.proofs.After.{after, after_none, after_next}
use Rattle.liquid_json.proofs.Under.{BuiltLists, built_alike, built_under, first_under, under_in_both, under_in_one, NamedAlone, named_put}
use Rattle.liquid_json.proofs.ScalarTokens.{scalar_read}
use Rattle.liquid_json.proofs.Turns.{converted-array, converted-object, item_read, items_over, pair_read, pairs_over}
use Rattle.liquid_json.proofs.PlainUses.{list_read, list_skipped, map_read, seen, unseen, plain_in}
use Rattle.liquid_json.proofs.planned.+planned.Goals as goal

pub read_parts-returns-in_default-token-clause-ok : goal.read_parts-returns-in_default-token-clause-ok
read_parts-returns-in_default-token-clause-ok t c =
    let first : c.args.reader.now ≡ token_of c.in-Some.token ∷ c.next.new.self = grind arith in
    IfOk-weaker c.scalar.result _ _
    (λ v e. (view v, ap (datum_at Integers c.args.depth) first ∙ scalar_read Integers c.args.depth (token_of c.in-Some.token) _ (view v) e, alike_equal (parts (members_view c.args.members.now.entries) (turns_view c.args.items.now)) _ _ refl, is_same))
    c.scalar.ensures.ok

pub read_parts-returns-in-None-clause-ok : goal.read_parts-returns-in-None-clause-ok
read_parts-returns-in-None-clause-ok t c =
    let first : c.args.reader.now ≡ token_of c.in-Some.token ∷ c.next.new.self = grind arith in
    let opened = ap (converted (datum_of Integers)) (ap (value c.args.depth) (first ∙ ap (λ k. token_of k ∷ c.next.new.self) c.in-BeginArray.is) ∙ value-begin_array c.args.depth c.next.new.self (omega arith)) ∙ converted-array Integers (items (value (c.args.depth - 1)) (length c.next.new.self) c.next.new.self) in
    let M = members_view c.args.members.now.entries in
    IfOk-weaker c.without_items.result _ _
    (λ v both. let found = both.0 in (
      array found.0,
      opened ∙ ap (parse_map array) found.1,
      subst (λ u. Alike (parts M u) (Some (array found.0)) (Some (view v))) (sym (ap turns_view c.in-None.is))
          (subst (λ d. Alike (parts M uncounted) (Some (array found.0)) (Some d)) (sym both.1) (list_skipped M found.0 c.requires.plain_members)),
      subst (λ d. Under (Some (array found.0)) (Some d)) (sym both.1) (is_beginning {cs = found.0} {ds = no_items} are_left),
    ))
    c.without_items.ensures.ok

pub read_parts-returns-in_ok-asked_items-in-Some-items-clause-ok : goal.read_parts-returns-in_ok-asked_items-in-Some-items-clause-ok
read_parts-returns-in_ok-asked_items-in-Some-items-clause-ok t c =
    let first : c.args.reader.now ≡ token_of c.in-Some.token ∷ c.next.new.self = grind arith in
    let opened = ap (converted (datum_of Integers)) (ap (value c.args.depth) (first ∙ ap (λ k. token_of k ∷ c.next.new.self) c.in-BeginArray.is) ∙ value-begin_array c.args.depth c.next.new.self (omega arith)) ∙ converted-array Integers (items (value (c.args.depth - 1)) (length c.next.new.self) c.next.new.self) in
    let M = members_view c.args.members.now.entries in
    let w = c.in-Some-items.asked in
    let built = c.in_ok-asked_items-in-Some-items in
    let found = built.ensures.ok in (
      array found.0,
      opened ∙ ap (parse_map array) found.1,
      subst (λ u. Alike (parts M u) (Some (array found.0)) (Some (view (Array built.field-0)))) (sym (ap turns_view c.in-Some-items.is))
          (subst (λ d. Alike (parts M (up_to w.limit (use_view w.each.value))) (Some (array found.0)) (Some d)) (sym (view-Array built.field-0))
          (list_read M w.limit (use_view w.each.value) found.0 (items_view built.field-0.items) c.requires.plain_members found.2)),
      subst (λ d. Under (Some (array found.0)) (Some d)) (sym (view-Array built.field-0)) (is_beginning {cs = found.0} {ds = items_view built.field-0.items} found.3),
    )

pub asked_items-returns-in-None-clause-ok : goal.asked_items-returns-in-None-clause-ok
asked_items-returns-in-None-clause-ok t c =
    let same : c.deref.result.now ≡ c.args.asked.now.each.value = search rules in
    subst (λ n. IfOk c.planned_items.result (λ v. AreFirstItems n (use_view c.args.asked.now.each.value) c.args.depth c.args.reader.now (items_view v.items) c.planned_items.new.reader)) (sym c.in-None.is)
    (subst (λ u. IfOk c.planned_items.result (λ v. AreFirstItems None (use_view u) c.args.depth c.args.reader.now (items_view v.items) c.planned_items.new.reader)) same c.planned_items.ensures.ok)

pub asked_items-returns-in-Some-clause-ok : goal.asked_items-returns-in-Some-clause-ok
asked_items-returns-in-Some-clause-ok t c =
    let same : c.deref-in-Some.result.now ≡ c.args.asked.now.each.value = search rules in
    subst (λ n. IfOk c.first_items.result (λ v. AreFirstItems n (use_view c.args.asked.now.each.value) c.args.depth c.args.reader.now (items_view v.items) c.first_items.new.reader)) (sym c.in-Some.is)
    (subst (λ u. IfOk c.first_items.result (λ v. AreFirstItems (Some c.in-Some.limit) (use_view u) c.args.depth c.args.reader.now (items_view v.items) c.first_items.new.reader)) same c.first_items.ensures.ok)

pub read_parts-returns-in_ok-planned_pairs-in-None-items-clause-ok : goal.read_parts-returns-in_ok-planned_pairs-in-None-items-clause-ok
read_parts-returns-in_ok-planned_pairs-in-None-items-clause-ok t c =
    let first : c.args.reader.now ≡ token_of c.in-Some.token ∷ c.next.new.self = grind arith in
    let opened = ap (converted (datum_of Integers)) (ap (value c.args.depth) (first ∙ ap (λ k. token_of k ∷ c.next.new.self) c.in-BeginObject.is) ∙ value-begin_object c.args.depth c.next.new.self (omega arith)) ∙ converted-object Integers (members (value (c.args.depth - 1)) (length c.next.new.self) c.next.new.self) in
    let M = members_view c.args.members.now.entries in
    let built = c.in_ok-planned_pairs-in-None-items in
    let found = built.ensures.ok in (
      object found.0,
      opened ∙ ap (parse_map object) found.1,
      subst (λ u. Alike (parts M u) (Some (object found.0)) (Some (view (Object built.field-0)))) (sym (ap turns_view c.in-None-items.is))
          (subst (λ d. Alike (parts M uncounted) (Some (object found.0)) (Some d)) (sym (view-Object built.field-0)) (map_read M found.0 (pairs_view built.field-0.entries) c.requires.plain_members found.2)),
      subst (λ d. Under (Some (object found.0)) (Some d)) (sym (view-Object built.field-0)) (has_some_members found.3),
    )

pub read_parts-returns-in-Some-items-2-clause-ok : goal.read_parts-returns-in-Some-items-2-clause-ok
read_parts-returns-in-Some-items-2-clause-ok t c =
    let first : c.args.reader.now ≡ token_of c.in-Some.token ∷ c.next.new.self = grind arith in
    let opened = ap (converted (datum_of Integers)) (ap (value c.args.depth) (first ∙ ap (λ k. token_of k ∷ c.next.new.self) c.in-BeginObject.is) ∙ value-begin_object c.args.depth c.next.new.self (omega arith)) ∙ converted-object Integers (members (value (c.args.depth - 1)) (length c.next.new.self) c.next.new.self) in
    IfOk-weaker c.whole_map.result _ _
    (λ v e. (view v, opened ∙ e, alike_equal (parts (members_view c.args.members.now.entries) (turns_view c.args.items.now)) _ _ refl, is_same)) c.whole_map.ensures.ok

pub planned_items-items-init : goal.planned_items-items-init
planned_items-items-init t c = (
  length c.args.reader.now,
  omega arith,
  (λ cs ds r e a. (cs, e, subst (λ xs. BuiltLists (use_view c.args.asked.now) (list_of cs) (list_of (after xs ds))) (sym c.new-found.ensures.items) a)),
  omega arith,
)

pub planned_items-items-preserved : goal.planned_items-items-preserved
planned_items-items-preserved t c =
    let p = value c.args.depth in
    let l = c.items in
    let n = l.invariant.0 in
    let going : (after_end_array l.reader ≡ None) × (c.take_end_array.new.self ≡ l.reader) = grind arith in
    let done = c.in_ok-item.ensures in
    let v = c.in_ok-item.item in
    let r = c.read_item.new.reader in
    let less : length r < length l.reader = rw (← going.1) done.shorter in
    let turn = item_read Integers p n l.reader r done.ok.0 (omega (arith, l.invariant.1)) going.0 (rw (← going.1) done.ok.1) in (
      n - 1,
      omega (arith, l.invariant.1),
      (λ cs ds s e a.
          let before = l.invariant.2 (item done.ok.0 cs) (item (view v) ds) s (turn ∙ ap (parse_map (item done.ok.0)) e) ((done.ok.2, done.ok.3), a) in
          (before.0, before.1, subst (λ xs. BuiltLists (use_view c.args.asked.now) (list_of before.0) (list_of xs)) (after_next l.found.items v ds ∙ ap (λ vs. after vs ds) (sym c.in_ok-push.ensures.items)) before.2)),
      omega (arith, l.invariant.3),
    )

pub planned_items-returns-clause-ok : goal.planned_items-returns-clause-ok
planned_items-returns-clause-ok t c =
    let p = value c.args.depth in
    let l = c.items in
    let n = l.invariant.0 in
    let r = c.take_end_array.new.self in
    let all = l.invariant.2 no_items no_items r (items_over Integers p n l.reader r l.invariant.1 (grind arith)) tt in
    let U = use_view c.args.asked.now in
    let built = subst (λ xs. BuiltLists U (list_of all.0) (list_of xs)) (after_none l.found.items) all.2 in
    (all.0, all.1, built_alike U (list_of all.0) _ built, built_under U (list_of all.0) _ built)

pub first_items-items-init : goal.first_items-items-init
first_items-items-init t c = (
  length c.args.reader.now,
  omega arith,
  (λ cs ds r e a. (cs, e, first_none (use_view c.args.asked.now) _ c.new-found.ensures.items c.args.limit cs ds a, refl)),
  omega arith,
)

pub first_items-items-preserved-in-Continue-branch-2 : goal.first_items-items-preserved-in-Continue-branch-2
first_items-items-preserved-in-Continue-branch-2 t c =
    let p = value c.args.depth in
    let l = c.items in
    let n = l.invariant.0 in
    let going : (after_end_array l.reader ≡ None) × (c.take_end_array.new.self ≡ l.reader) = grind arith in
    let done = c.in_ok-item.ensures in
    let v = c.in_ok-item.item in
    let r = c.read_planned.new.reader in
    let less : length r < length l.reader = rw (← going.1) done.shorter in
    let turn = item_read Integers p n l.reader r done.ok.0 (omega (arith, l.invariant.1)) going.0 (rw (← going.1) done.ok.1) in
    let few : length l.found.items < c.args.limit = omega arith in
    let some : 0 < l.room = omega arith in (
      n - 1,
      omega (arith, l.invariant.1),
      (λ cs ds s e a.
          let kept = first_kept (use_view c.args.asked.now) l.found.items v c.args.limit done.ok.0 cs ds few (subst (λ vs. BuiltLists (use_view c.args.asked.now) (take (c.args.limit - length vs) (list_of cs)) (list_of ds)) c.in_ok-push.ensures.items a) (done.ok.2, done.ok.3) in
          let before = l.invariant.2 (item done.ok.0 cs) (item (view v) ds) s (turn ∙ ap (parse_map (item done.ok.0)) e) kept in
          (before.0, before.1, subst (λ xs. BuiltLists (use_view c.args.asked.now) (take c.args.limit (list_of before.0)) (list_of xs)) (after_next l.found.items v ds ∙ ap (λ vs. after vs ds) (sym c.in_ok-push.ensures.items)) before.2, omega (arith, before.3))),
      omega (arith, l.invariant.3),
    )

pub first_items-items-preserved : goal.first_items-items-preserved
first_items-items-preserved t c =
    let p = value c.args.depth in
    let l = c.items in
    let n = l.invariant.0 in
    let going : (after_end_array l.reader ≡ None) × (c.take_end_array.new.self ≡ l.reader) = grind arith in
    let done = c.in_ok-skipped.ensures in
    let r = c.skipped.new.reader in
    let less : length r < length l.reader = rw (← going.1) done.shorter in
    let turn = item_read Integers p n l.reader r done.ok.0 (omega (arith, l.invariant.1)) going.0 (rw (← going.1) done.ok.1) in
    let full : c.args.limit ≤ length l.found.items = omega arith in
    let some : 0 < l.room = omega arith in (
      n - 1,
      omega (arith, l.invariant.1),
      (λ cs ds s e a.
          let before = l.invariant.2 (item done.ok.0 cs) ds s (turn ∙ ap (parse_map (item done.ok.0)) e) (first_skipped (use_view c.args.asked.now) (length l.found.items) c.args.limit done.ok.0 cs ds full a) in
          (before.0, before.1, before.2, omega (arith, before.3))),
      omega (arith, l.invariant.3),
    )

pub first_items-returns-clause-ok : goal.first_items-returns-clause-ok
first_items-returns-clause-ok t c =
    let p = value c.args.depth in
    let l = c.items in
    let n = l.invariant.0 in
    let r = c.take_end_array.new.self in
    let all = l.invariant.2 no_items no_items r (items_over Integers p n l.reader r l.invariant.1 (grind arith)) (none_left (use_view c.args.asked.now) (c.args.limit - length l.found.items)) in
    let built = subst (λ xs. BuiltLists (use_view c.args.asked.now) (take c.args.limit (list_of all.0)) (list_of xs)) (after_none l.found.items) all.2 in (
      all.0,
      all.1,
      first_are (use_view c.args.asked.now) c.args.limit (list_of all.0) (list_of (items_view l.found.items)) (subst (λ k. k ≤ 9223372036854775807) (sym (list_lengths all.0)) (omega (arith, all.3))) built,
      first_under (use_view c.args.asked.now) c.args.limit (list_of all.0) _ built,
    )

pub planned_pairs-pairs-init : goal.planned_pairs-pairs-init
planned_pairs-pairs-init t c = (length c.args.reader.now, omega arith, (no_pairs, refl, (λ key. alike_equal (pairs_wanted (members_view c.args.members.now.entries) uncounted key) None _ (ap (λ es. value_at key (pairs_view es)) (sym c.new-found.ensures.empty))), (λ key. subst (Under None) (ap (λ es. value_at key (pairs_view es)) (sym c.new-found.ensures.empty)) is_same), (λ key none. ap (λ es. value_at key (pairs_view es)) c.new-found.ensures.empty)), omega arith)

pub planned_pairs-read_planned-requires : goal.planned_pairs-read_planned-requires
planned_pairs-read_planned-requires t c =
    (omega arith, subst (λ u. is_plain_use u ≡ true) (found_use c.in-Some.name.now c.args.members.now.entries (Some c.in-Some-get.asked) c.in-Some-get.ensures.value) (plain_in (members_view c.args.members.now.entries) c.in-Some.name.now c.requires.plain))

pub planned_pairs-pairs-preserved-in-Continue-branch-4 : goal.planned_pairs-pairs-preserved-in-Continue-branch-4
planned_pairs-pairs-preserved-in-Continue-branch-4 t c =
    let p = value c.args.depth in
    let l = c.pairs in
    let n = l.invariant.0 in
    let M = members_view c.args.members.now.entries in
    let now = l.invariant.2 in
    let k = c.in-Some.name.now in
    let s = c.next_key.new.self in
    let named : read_key l.reader ≡ Some (Some k, s) = grind arith in
    let done = c.in_ok-member-in-Some-get.ensures in
    let v = c.in_ok-member-in-Some-get.member in
    let r = c.read_planned.new.reader in
    let less = read_key-shorter l.reader (Some k) s named in
    let lesser = done.shorter in
    let inserted : pairs_view c.put_member.new.found.entries ≡ put k (view v) (pairs_view l.found.entries) = c.in_ok-put_member-in-Some-get.ensures.put in
    let asks = found_use k c.args.members.now.entries (Some c.in-Some-get.asked) c.in-Some-get.ensures.value in (
      n - 1,
      omega (arith, l.invariant.1),
      (
        put k done.ok.0 now.0,
        now.1 ∙ pair_read Integers p now.0 n k l.reader s r done.ok.0 (omega (arith, l.invariant.1)) named done.ok.1,
        subst (λ qs. AlikeKeys (pairs_wanted M uncounted) (put k done.ok.0 now.0) qs) (sym inserted)
            (put_in_both (pairs_wanted M uncounted) now.0 (pairs_view l.found.entries) k done.ok.0 (view v) now.2
            (seen M k c.requires.plain (Some done.ok.0) (Some (view v)) (subst (λ u. Alike u (Some done.ok.0) (Some (view v))) (sym asks) done.ok.2))),
        subst (λ qs. KeysUnder (put k done.ok.0 now.0) qs) (sym inserted) (under_in_both now.0 (pairs_view l.found.entries) k done.ok.0 (view v) now.3 done.ok.3),
        subst (λ qs. NamedAlone c.args.members.now.entries qs) (sym inserted) (named_put c.args.members.now.entries (pairs_view l.found.entries) k (view v) c.in-Some-get.asked.now c.in-Some-get.ensures.value now.4),
      ),
      omega (arith, l.invariant.3),
    )

pub planned_pairs-pairs-preserved : goal.planned_pairs-pairs-preserved
planned_pairs-pairs-preserved t c =
    let p = value c.args.depth in
    let l = c.pairs in
    let n = l.invariant.0 in
    let M = members_view c.args.members.now.entries in
    let now = l.invariant.2 in
    let k = c.in-Some.name.now in
    let s = c.next_key.new.self in
    let named : read_key l.reader ≡ Some (Some k, s) = grind arith in
    let done = c.in_ok-skipped-in-None.ensures in
    let r = c.skipped.new.reader in
    let less = read_key-shorter l.reader (Some k) s named in
    let lesser = done.shorter in (
      n - 1,
      omega (arith, l.invariant.1),
      (
        put k done.ok.0 now.0,
        now.1 ∙ pair_read Integers p now.0 n k l.reader s r done.ok.0 (omega (arith, l.invariant.1)) named done.ok.1,
        put_in_one (pairs_wanted M uncounted) now.0 (pairs_view l.found.entries) k done.ok.0 now.2 (unseen M k c.requires.plain (found_use k c.args.members.now.entries None c.in-None.ensures.value)),
        under_in_one now.0 (pairs_view l.found.entries) k done.ok.0 now.3 (now.4 k (sym c.in-None.ensures.value)),
        now.4,
      ),
      omega (arith, l.invariant.3),
    )

pub planned_pairs-returns-clause-ok : goal.planned_pairs-returns-clause-ok
planned_pairs-returns-clause-ok t c =
    let p = value c.args.depth in
    let l = c.pairs in
    let n = l.invariant.0 in
    let now = l.invariant.2 in
    (now.0, now.1 ∙ pairs_over Integers p now.0 n l.reader c.next_key.new.self l.invariant.1 (grind arith), now.2, now.3)

pub read_planned-returns-in-Nothing-clause-ok : goal.read_planned-returns-in-Nothing-clause-ok
read_planned-returns-in-Nothing-clause-ok t c =
    let none = ap use_view c.in-Nothing.is ∙ view-Nothing in
    IfOk-weaker c.unread.result _ _
    (λ v both. let found = both.0 in (
      found.0,
      found.1,
      subst (λ u. Alike u (Some found.0) (Some (view v))) (sym none) tt,
      subst (λ d. Under (Some found.0) (Some d)) (sym both.1) is_unread,
    ))
    c.unread.ensures.ok

pub read_planned-returns-in-Everything-clause-ok : goal.read_planned-returns-in-Everything-clause-ok
read_planned-returns-in-Everything-clause-ok t c =
    IfOk-weaker c.read.result _ _ (λ v e. (view v, e, alike_equal (use_view c.args.asked.now) _ _ refl, is_same)) c.read.ensures.ok

pub read_planned-returns-in-Parts-clause-ok : goal.read_planned-returns-in-Parts-clause-ok
read_planned-returns-in-Parts-clause-ok t c =
    let same : use_view c.args.asked.now ≡ parts (members_view c.in-Parts.members.entries) (turns_view c.in-Parts.items) =
    ap use_view c.in-Parts.is ∙ view-Parts c.in-Parts.members c.in-Parts.items in
    subst (λ u. IfOk c.read_parts.result (λ v. IsPlanned u c.args.depth c.args.reader.now (view v) c.read_parts.new.reader)) (sym same) c.read_parts.ensures.ok

pub read_item-returns-in-Whole-clause-ok : goal.read_item-returns-in-Whole-clause-ok
read_item-returns-in-Whole-clause-ok t c =
    IfOk-weaker c.read.result _ _ (λ v e. (view v, e, alike_equal (use_view c.args.asked.now) _ _ refl, is_same)) c.read.ensures.ok

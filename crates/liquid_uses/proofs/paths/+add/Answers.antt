use Rattle.std.proofs.Common.{◌≡◌, true, false, [], ◌++◌, codes, sym, ap, ◌∙◌, rules}
use Rattle.std.specs.Prelude.{string_bytes}
use Rattle.liquid_model.specs.Uses.{asks_whether}
use Rattle.liquid_model.specs.UseViews.{members_view, turns_view, use_view}
use Rattle.liquid_model.proofs.UseViews.{view-Nothing, view-Everything, view-Parts}
use Rattle.liquid_syntax.specs.NameSets.{mentioned_in_set}
use Rattle.liquid_uses.proofs.WholeNames.{Entry}
use Rattle.liquid_uses.proofs.AddedPaths.{same_added, then_added, nothing_added, whole_paths, unwritable, seen_only, all_parts, no_items_added, items_asked, items_counted, member_added, members_added}
use Rattle.liquid_uses.proofs.paths.+add.Goals as goal

pub add_paths-returns-in-Nothing : goal.add_paths-returns-in-Nothing
add_paths-returns-in-Nothing t c = nothing_added c.args.path.now (mentioned_in_set c.args.paths.now) (use_view c.args.asked.now) (ap use_view c.in-Nothing.is ∙ view-Nothing)

pub add_paths-returns-in-Everything : goal.add_paths-returns-in-Everything
add_paths-returns-in-Everything t c = same_added _ _ _ _ _ (whole_paths c.args.path.now (use_view c.args.asked.now) (ap use_view c.in-Everything.is ∙ view-Everything)) c.add_path.ensures

pub add_paths-returns-then-not-are_words : goal.add_paths-returns-then-not-are_words
add_paths-returns-then-not-are_words t c =
    let is = ap use_view c.in-Parts.is ∙ view-Parts c.in-Parts.members c.in-Parts.items in
    let words : c.are_words.result ≡ false = search rules in
    same_added _ _ _ _ _ (unwritable c.args.path.now _ (members_view c.in-Parts.members.entries) (turns_view c.in-Parts.items) is (sym c.are_words.ensures ∙ words)) c.add_path-then-not-are_words.ensures

pub add_paths-returns-then-not-asks_parts : goal.add_paths-returns-then-not-asks_parts
add_paths-returns-then-not-asks_parts t c =
    let is = ap use_view c.in-Parts.is ∙ view-Parts c.in-Parts.members c.in-Parts.items in
    let words : c.are_words.result ≡ true = search rules in
    let asked : c.asks_parts.result ≡ false = search rules in
    same_added _ _ _ _ _ (seen_only c.args.path.now _ (members_view c.in-Parts.members.entries) (turns_view c.in-Parts.items) is (sym c.are_words.ensures ∙ words) (sym c.asks_parts.ensures ∙ asked)) c.add_path-then-not-asks_parts.ensures

pub add_paths-returns-in_ok-add_member_paths-in-Parts : goal.add_paths-returns-in_ok-add_member_paths-in-Parts
add_paths-returns-in_ok-add_member_paths-in-Parts t c =
    let is = ap use_view c.in-Parts.is ∙ view-Parts c.in-Parts.members c.in-Parts.items in
    let words : c.are_words.result ≡ true = search rules in
    let asked : c.asks_parts.result ≡ true = search rules in
    same_added _ _ _ _ _ (all_parts c.args.path.now _ (members_view c.in-Parts.members.entries) (turns_view c.in-Parts.items) is (sym c.are_words.ensures ∙ words) (sym c.asks_parts.ensures ∙ asked))
    (then_added _ _ _ _ _ _ c.in_ok-add_member_paths-in-Parts.ensures c.add_item_paths.ensures)

pub add_member_paths-loop-key-preserved : goal.add_member_paths-loop-key-preserved
add_member_paths-loop-key-preserved t c =
    let e : Entry = (c.in-Some.key.now, c.in-Some.asked.now) in
    let named : string_bytes c.in_ok-inner.inner ≡ c.args.path.now ++ (codes "." ++ string_bytes e.0) = c.in_ok-inner.ensures ∙ ap (λ k. c.args.path.now ++ (codes "." ++ k)) c.as_str.ensures.value in
    member_added c.args.path.now _ (mentioned_in_set c.loop-key.paths) _ e c.next.new.self c.loop-key.key-iterator c.in-Some.ensures.steps (c.as_str-in-loop-key.ensures.value ∙ named) c.in_ok-add_paths.ensures
    ∙ c.loop-key.invariant

pub add_member_paths-returns : goal.add_member_paths-returns
add_member_paths-returns t c =
    let none : c.loop-key.key-iterator ≡ [] = search rules in
    members_added c.args.path.now (mentioned_in_set c.loop-key.paths) _ c.loop-key.key-iterator none c.loop-key.invariant

pub add_item_paths-returns-in-None : goal.add_item_paths-returns-in-None
add_item_paths-returns-in-None t c = no_items_added c.args.path.now (mentioned_in_set c.args.paths.now) c.args.items.now c.in-None.is

pub add_item_paths-returns-then-asks_whether : goal.add_item_paths-returns-then-asks_whether
add_item_paths-returns-then-asks_whether t c =
    let same = c.deref-then-asks_whether.ensures ∙ sym c.deref.ensures in
    same_added _ _ _ _ _ (items_asked c.args.path.now _ c.args.items.now c.in-Some.asked c.in-Some.is (c.as_str.ensures.value ∙ c.in_ok-each-in-Some.ensures)
    c.deref-then-asks_whether.result.now c.deref-then-asks_whether.ensures
    (ap (λ u. asks_whether (use_view u)) same ∙ sym c.asks_whether.ensures ∙ c.if-asks_whether.true)) c.add_paths.ensures

pub add_item_paths-returns : goal.add_item_paths-returns
add_item_paths-returns t c =
    same_added _ _ _ _ _ (items_counted c.args.path.now _ c.args.items.now c.in-Some.asked c.in-Some.is (c.as_str-else-asks_whether.ensures.value ∙ c.in_ok-each-in-Some.ensures)
    c.deref.result.now c.deref.ensures (sym c.asks_whether.ensures ∙ c.if-asks_whether.false)) c.add_path.ensures

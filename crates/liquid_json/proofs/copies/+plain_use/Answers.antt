use Rattle.std.proofs.Common.{◌≡◌, [], ◌∷◌, ◌++◌, true, string_bytes, string_cmp, sym, ap, ◌∙◌, append_assoc, rules}
use mathlib.Core.Path.{subst}
use Rattle.std.specs.List.Sorted.{IsStrictlySortedBy}
use Rattle.std.specs.Map.{keys_of}
use Rattle.liquid_model.specs.Uses.{parts}
use Rattle.liquid_model.specs.UseViews.{use_view, members_view, turns_view}
use Rattle.liquid_model.proofs.UseViews.{view-Everything, view-Parts}
use Rattle.liquid_json.specs.inside.Copies.{any_by_place, each_plain, AsksMore, AskMore}
use Rattle.liquid_json.proofs.PlainCopies.{Entry, one_more, plain_insert, plain_copies, nil_right, all_more, parts_more}
use Rattle.liquid_json.proofs.copies.+plain_use.Goals as goal
use Rattle.std.specs.Prelude.{false}

pub plain_uses-loop-name-preserved : goal.plain_uses-loop-name-preserved
plain_uses-loop-name-preserved t c =
    let l = c.loop-name in
    let done = l.invariant.0 in
    let e : Entry = (c.in-Some.name.now, c.in-Some.asked.now) in
    let left = c.next.new.self in
    let all : c.args.uses.now.entries ≡ done ++ e ∷ left = l.invariant.1 ∙ ap (λ es. done ++ es) c.in-Some.ensures.steps in
    let sorted = subst (λ es. IsStrictlySortedBy string_cmp (keys_of es)) all c.iter-name-items.ensures.ordered in
    let named : string_bytes c.in_ok-key.key ≡ string_bytes e.0 = search rules in (
      done ++ e ∷ [],
      all ∙ sym (append_assoc done (e ∷ []) left),
      subst (λ es. AskMore (members_view es) (members_view (done ++ e ∷ []))) (sym c.in_ok-insert.ensures.entries)
          (one_more l.found.entries done c.in_ok-key.key c.in_ok-member.member e left sorted named c.in_ok-member.ensures.more l.invariant.2),
      subst (λ es. each_plain (members_view es) ≡ true) (sym c.in_ok-insert.ensures.entries) (plain_insert l.found.entries c.in_ok-key.key c.in_ok-member.member c.in_ok-member.ensures.plain l.invariant.3),
    )

pub plain_uses-returns-clause-plain : goal.plain_uses-returns-clause-plain
plain_uses-returns-clause-plain t c =
    let l = c.loop-name in
    let done = l.invariant.0 in
    plain_copies (members_view l.found.entries) done l.name-iterator (subst (λ es. IsStrictlySortedBy string_cmp (keys_of es)) l.invariant.1 c.iter-name-items.ensures.ordered)
    (subst (λ es. any_by_place (members_view es) ≡ false) l.invariant.1 c.requires.named) l.invariant.2 l.invariant.3

pub plain_uses-returns-clause-more : goal.plain_uses-returns-clause-more
plain_uses-returns-clause-more t c =
    let l = c.loop-name in
    let done = l.invariant.0 in
    let ended : l.name-iterator ≡ [] = search rules in
    subst (λ es. AskMore (members_view l.found.entries) (members_view es)) (sym (l.invariant.1 ∙ ap (λ es. done ++ es) ended ∙ nil_right done)) l.invariant.2

pub plain_use-returns-then-depth-eq0-clause-more : goal.plain_use-returns-then-depth-eq0-clause-more
plain_use-returns-then-depth-eq0-clause-more t c =
    subst (λ u. AsksMore u (use_view c.args.asked.now)) (sym view-Everything) (all_more (use_view c.args.asked.now))

pub plain_use-returns-then-any_by_place-clause-more : goal.plain_use-returns-then-any_by_place-clause-more
plain_use-returns-then-any_by_place-clause-more t c =
    subst (λ u. AsksMore u (use_view c.args.asked.now)) (sym view-Everything) (all_more (use_view c.args.asked.now))

pub plain_use-returns-in_ok-items-in-Parts-clause-more : goal.plain_use-returns-in_ok-items-in-Parts-clause-more
plain_use-returns-in_ok-items-in-Parts-clause-more t c =
    let M = c.in_ok-members-in-Parts in
    let I = c.in_ok-items-in-Parts in
    let asked : use_view c.args.asked.now ≡ parts (members_view c.in-Parts.members.entries) (turns_view c.in-Parts.items) =
    ap use_view c.in-Parts.is ∙ view-Parts c.in-Parts.members c.in-Parts.items in
    let more = parts_more (members_view M.members.entries) (members_view c.in-Parts.members.entries) (turns_view I.items) (turns_view c.in-Parts.items) M.ensures.more I.ensures.more in
    subst (λ u. AsksMore u (use_view c.args.asked.now)) (sym (view-Parts M.members I.items))
    (subst (λ u. AsksMore (parts (members_view M.members.entries) (turns_view I.items)) u) (sym asked) more)

use Rattle.std.proofs.Common.{◌≡◌, Bool, true, false, ◌&&◌, refl, sym, ap, ◌∙◌}
use Rattle.liquid_model.specs.Uses as seen
use Rattle.liquid_model.specs.Uses.{includes, includes_items, parts, no_fields}
use Rattle.liquid_model.specs.UseViews.{use_view, members_view, turns_view}
use Rattle.liquid_model.proofs.UseViews.{view-Everything, view-Parts, everything_includes, parts_include}
use Rattle.liquid_model.proofs.uses.+included.Goals as goal

first_fails : (a b : Bool) → a ≡ false → a ≡ (a && b)
first_fails true b e = absurd cc
first_fails false b e = refl

pub included-returns-in-Everything-held : goal.included-returns-in-Everything-held
included-returns-in-Everything-held t c =
    let all : use_view c.args.held.now ≡ seen.everything = ap use_view c.in-Everything-held.is ∙ view-Everything in
    sym (ap (λ u. includes u (use_view c.args.asked.now)) all ∙ everything_includes (use_view c.args.asked.now))

pub included-returns-then-included_members : goal.included-returns-then-included_members
included-returns-then-included_members t c =
    let held = ap use_view c.in-Parts-held.is ∙ view-Parts c.in-Parts-held.held_members c.in-Parts-held.held_items in
    let asked = ap use_view c.in-Parts.is ∙ view-Parts c.in-Parts.members c.in-Parts.items in
    ap (λ b. b && c.included_items.result) (sym c.if-included_members.true)
    ∙ parts_include (members_view c.in-Parts-held.held_members.entries) (members_view c.in-Parts.members.entries) (turns_view c.in-Parts-held.held_items) (turns_view c.in-Parts.items) _ _ c.included_members.ensures c.included_items.ensures
    ∙ (λ i. includes (sym held i) (sym asked i))

pub included-returns-else-included_members : goal.included-returns-else-included_members
included-returns-else-included_members t c =
    let held = ap use_view c.in-Parts-held.is ∙ view-Parts c.in-Parts-held.held_members c.in-Parts-held.held_items in
    let asked = ap use_view c.in-Parts.is ∙ view-Parts c.in-Parts.members c.in-Parts.items in
    first_fails c.included_members.result (includes_items (parts no_fields (turns_view c.in-Parts-held.held_items)) (turns_view c.in-Parts.items)) c.if-included_members.false
    ∙ parts_include (members_view c.in-Parts-held.held_members.entries) (members_view c.in-Parts.members.entries) (turns_view c.in-Parts-held.held_items) (turns_view c.in-Parts.items) _ _ c.included_members.ensures refl
    ∙ (λ i. includes (sym held i) (sym asked i))

use Rattle.std.proofs.Common.{◌≡◌, ◌+◌, ◌∷◌, ◌++◌, ◌∙◌, ap, drop, sym}
use Rattle.std.proofs.lemmas.List.{drop_more}
use Rattle.liquid_model.specs.Lists.{list_of}
use Rattle.liquid_model.specs.View.{view, items_view}
use Rattle.liquid_jekyll_host_filters.specs.Groups.{items_named}
use Rattle.liquid_jekyll_host_filters.specs.inside.Members.{member_if_named, members_of}
use Rattle.liquid_jekyll_host_filters.proofs.GroupedItems.{one_more_item}
use Rattle.liquid_jekyll_host_filters.proofs.groups.members.Goals as goal

pub loop-item-preserved : goal.loop-item-preserved
loop-item-preserved c q =
    let items = c.args.items.now in
    let name = c.args.name.now in
    let i = c.loop-item.item-index in
    let item = c.item-item.result in
    let rest : drop i items ≡ item ∷ drop (i + 1) items = drop_more items i item c.loop-item-test.true ∙ ap (λ x. x ∷ drop (i + 1) items) (sym c.item-item.is) in
    let old = members_of c.loop-item.members q in
    let inv = c.loop-item.invariant q ∙ ap (λ vs. old ++ items_named name (list_of (items_view vs)) q) rest in
    let text = c.in_ok-text.ensures.ok ∙ c.in_ok-group_name.ensures in
    one_more_item name (view item) (list_of (items_view (drop (i + 1) items))) q _ old _ inv (c.in_ok-add_member.ensures.members q ∙ ap (λ t. old ++ member_if_named t (view item) q) text)

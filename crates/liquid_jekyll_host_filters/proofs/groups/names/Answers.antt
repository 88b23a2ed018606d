use Rattle.std.proofs.Common.{◌≡◌, ◌+◌, ◌∷◌, ◌∙◌, ap, drop, map, string_bytes, sym}
use Rattle.std.proofs.lemmas.List.{drop_more}
use Rattle.liquid_model.specs.Lists.{list_of}
use Rattle.liquid_model.specs.View.{items_view}
use Rattle.liquid_jekyll_host_filters.specs.Groups.{names_after, noted}
use Rattle.liquid_jekyll_host_filters.proofs.groups.names.Goals as goal

pub loop-item-preserved : goal.loop-item-preserved
loop-item-preserved c =
    let items = c.args.items.now in
    let name = c.args.name.now in
    let i = c.loop-item.item-index in
    let item = c.item-item.result in
    let us = map string_bytes c.loop-item.names.items in
    let rest : drop i items ≡ item ∷ drop (i + 1) items = drop_more items i item c.loop-item-test.true ∙ ap (λ x. x ∷ drop (i + 1) items) (sym c.item-item.is) in
    let text = c.as_str.ensures.value ∙ c.in_ok-text.ensures in
    let next = c.in_ok-note_name.ensures.names ∙ ap (λ t. noted t us) text in (
      c.loop-item.invariant.0 ∙ ap (λ vs. names_after name us (list_of (items_view vs))) rest ∙ ap (λ vs. names_after name vs (list_of (items_view (drop (i + 1) items)))) (sym next),
      c.in_ok-note_name.ensures.seen,
    )

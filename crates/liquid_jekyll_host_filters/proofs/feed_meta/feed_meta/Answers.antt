use Rattle.std.proofs.Common.{◌≡◌, ap, subst, sym, ◌∙◌}
use Rattle.liquid_model.specs.Answer.{Answers}
use Rattle.liquid_model.specs.Data.{text}
use Rattle.liquid_model.specs.View.{view}
use Rattle.liquid_model.proofs.Views.{view-Text}
use Rattle.liquid_jekyll_host_filters.specs.FeedMeta.{feed_link, feed_path, or_other}
use Rattle.liquid_jekyll_host_filters.proofs.Linked.{feed_lacking, feed_split, refused_as}
use Rattle.liquid_jekyll_host_filters.proofs.feed_meta.feed_meta.Goals as goal

pub returns-in_default : goal.returns-in_default
returns-in_default c = refused_as c.invalid_argument.result.kind _ c.invalid_argument.ensures.kind_or_memory (feed_lacking c.args.address.now c.args.base.now (view c.args.input.now) c.args.args.now c.in_default.len_below)

pub returns-in_ok-from_str-in-len3-up : goal.returns-in_ok-from_str-in-len3-up
returns-in_ok-from_str-in-len3-up c =
    let usual = view-Text c.in_ok-from_str-in-len3-up.field-0 ∙ ap text c.in_ok-from_str-in-len3-up.ensures.ok in
    let path : view c.or_other-path.result.now ≡ feed_path (view c.feed-item.result) = c.or_other-path.ensures ∙ (λ i. or_other (c.member.ensures i) (usual i)) in
    let title : view c.or_other.result.now ≡ or_other (view c.title-item.result) (view c.name-item.result) = c.or_other.ensures in
    subst (Answers view c.feed_link.result)
    ((λ i. feed_link c.args.address.now c.args.base.now (path i) (title i))
    ∙ sym (feed_split c.args.address.now c.args.base.now (view c.args.input.now) c.args.args.now c.feed-item.result c.title-item.result c.name-item.result c.in-len3-up.len_at_least c.feed-item.is c.title-item.is c.name-item.is))
    c.feed_link.ensures

use Rattle.std.proofs.Common.{◌≡◌, rules, length, sym, ap, ◌∙◌}
use Rattle.std.specs.Vec.{vec_len}
use Rattle.std.proofs.lemmas.List.{length-map}
use Rattle.liquid_core.specs.Held.{held}
use Rattle.liquid_syntax.specs.Templates.{tree_of, partials_of}
use Rattle.liquid_syntax.proofs.Held.{ascend_seen}
use Rattle.liquid_engine.specs.Pages.{page_by}
use Rattle.liquid_site.specs.Contents.{all_pages, page_of, pages_from_scratch}
use Rattle.liquid_site.specs.PartViews.{site_parts_view}
use Rattle.liquid_site.specs.Parts.{by_name, trees_in}
use Rattle.liquid_site.specs.Steps.{saturated_sum}
use Rattle.liquid_site.specs.inside.Fresh.{selects, selected, all_placed, listed_pages}
use Rattle.liquid_site.proofs.Placing.{placed_from_scratch}
use Rattle.liquid_site.proofs.Shown.{same_length, shown_as, shown_all_placed}
use Rattle.liquid_site.proofs.parts.SiteParts.exchange_data.Goals as goal

pub returns-clause-keeps : goal.returns-clause-keeps
returns-clause-keeps g c =
    let s = c.args.self.now in
    let ts = trees_in s.templates in
    let test = selects c.args.selection in
    let show = page_by s.setting (partials_of s.partials) (held c.args.«data») in
    let before = pages_from_scratch (site_parts_view s).contents in
    let fresh = all_pages show (selected test ts) in
    let pages = listed_pages c.in_ok-fresh.fresh.items in
    shown_as (g.R.Rendering.shows c.args.rendering.now) (all_placed fresh before) (all_pages show ts) (all_placed pages (by_name s.pages)) (by_name c.replace_pages.new.pages)
    (placed_from_scratch test show (page_of (site_parts_view s).contents) ts (ascend_seen tree_of s.templates.entries c.in_ok-fresh.ensures.ascend) c.requires.untouched)
    (sym c.replace_pages.ensures) (shown_all_placed (g.R.Rendering.shows c.args.rendering.now) fresh pages before (by_name s.pages) c.in_ok-fresh.ensures.pages c.requires.shown)

pub returns-clause-counted : goal.returns-clause-counted
returns-clause-counted g c =
    let s = c.args.self.now in
    let show = page_by s.setting (partials_of s.partials) (held c.args.«data») in
    let fresh = all_pages show (selected (selects c.args.selection) (trees_in s.templates)) in
    let items : vec_len c.in_ok-fresh.fresh ≡ length c.in_ok-fresh.fresh.items = search rules in
    let as_many = sym (length-map c.in_ok-fresh.fresh.items _) ∙ same_length (g.R.Rendering.shows c.args.rendering.now) fresh (listed_pages c.in_ok-fresh.fresh.items) c.in_ok-fresh.ensures.pages in
    c.saturating_add-self.ensures ∙ ap (saturated_sum s.rendered) (c.len.ensures ∙ items ∙ as_many ∙ length-map _ _)

use Rattle.std.proofs.Common.{string_bytes, refl, sym, ap, ◌∙◌}
use Rattle.liquid_language.specs.Entries.{put_entry}
use Rattle.liquid_syntax.specs.Templates.{tree_of}
use Rattle.liquid_site.specs.Contents.{page_of, all_pages, pages_from_scratch}
use Rattle.liquid_site.specs.PartViews.{site_parts_view}
use Rattle.liquid_site.specs.Parts.{by_name, trees_in}
use Rattle.liquid_site.proofs.KeptPages.{put_shown}
use Rattle.liquid_site.proofs.Placing.{names_shown}
use Rattle.liquid_site.proofs.Shown.{same_names, shown_as, shown_put}
use Rattle.liquid_site.proofs.parts.SiteParts.set_page.Goals as goal

pub put_page-requires : goal.put_page-requires
put_page-requires g c =
    let s = c.args.self.now in
    let ws = pages_from_scratch (site_parts_view s).contents in
    sym (names_shown (page_of (site_parts_view s).contents) (trees_in s.templates)) ∙ same_names (g.R.Rendering.shows c.args.rendering.now) ws (by_name s.pages) c.requires

pub returns-clause-keeps : goal.returns-clause-keeps
returns-clause-keeps g c =
    let s = c.args.self.now in
    let show = page_of (site_parts_view s).contents in
    let ws = pages_from_scratch (site_parts_view s).contents in
    let t = tree_of c.args.template in
    let name = string_bytes c.args.name in
    let page = c.in_ok-page.page in
    shown_as (g.R.Rendering.shows c.args.rendering.now) (put_entry name (show t) ws) (all_pages show (trees_in c.put_page.new.templates)) (put_entry name page (by_name s.pages)) (by_name c.put_page.new.pages)
    (put_shown show name t (trees_in s.templates) ∙ ap (all_pages show) (sym c.in_ok-put_page.ensures.templates)) (sym c.in_ok-put_page.ensures.pages)
    (shown_put (g.R.Rendering.shows c.args.rendering.now) name (show t) page ws (by_name s.pages) c.in_ok-page.ensures.page c.requires)

pub returns-in_err-put_page-clause-keeps : goal.returns-in_err-put_page-clause-keeps
returns-in_err-put_page-clause-keeps g c =
    let s = c.args.self.now in
    let show = page_of (site_parts_view s).contents in
    shown_as (g.R.Rendering.shows c.args.rendering.now) (pages_from_scratch (site_parts_view s).contents) (all_pages show (trees_in c.put_page.new.templates)) (by_name s.pages) (by_name c.put_page.new.pages)
    (ap (all_pages show) (sym c.in_err-put_page.ensures.templates_unchanged)) (sym c.in_err-put_page.ensures.pages_unchanged) c.requires

pub returns-clause-counted : goal.returns-clause-counted
returns-clause-counted g c = c.saturating_add-self.ensures

use Rattle.std.proofs.Common.{◌≡◌, ◌++◌}
use Rattle.liquid_core.specs.Held.{held}
use Rattle.liquid_language.specs.Entries.{seen}
use Rattle.liquid_syntax.specs.Templates.{tree_of, partials_of}
use Rattle.liquid_engine.specs.Pages.{page_by}
use Rattle.liquid_site.specs.Contents.{Pages, all_pages}
use Rattle.liquid_site.specs.Parts.{trees_in}
use Rattle.liquid_site.specs.ShownPages.{AreShown}
use Rattle.liquid_site.specs.inside.Fresh.{selects, selected, listed_pages}
use Rattle.liquid_site.proofs.refresh.rendered_pages.Given as goal

-- the pages so far are right for their whole pages, which with those of what is left are all
abbrev pub invariant-loop-page : goal.invariant-loop-page
invariant-loop-page g l =
    let show = page_by l.context.setting (partials_of l.context.partials.now) (held l.context.«data».now) in
    let test = selects l.selection in
    (done : Pages) × AreShown (g.R.Rendering.shows l.context.rendering.now) done (listed_pages l.pages.items) × (done ++ all_pages show (selected test (seen tree_of l.page-iterator)) ≡ all_pages show (selected test (trees_in l.templates)))

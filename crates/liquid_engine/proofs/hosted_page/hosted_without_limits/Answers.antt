use Rattle.std.proofs.Common.{Ok, inl, refl, string_bytes}
use Rattle.liquid_core.specs.States.{environment_of}
use Rattle.liquid_syntax.specs.Templates.{tree_of}
use Rattle.liquid_engine.specs.inside.Engine.{nodes_in}
use Rattle.liquid_engine.proofs.LimitedPages.{unlimited_keeps}
use Rattle.liquid_engine.proofs.Pages.{page_met}
use Rattle.liquid_engine.proofs.hosted_page.hosted_without_limits.Goals as goal

pub returns-clause-page : goal.returns-clause-page
returns-clause-page g c =
    let run = nodes_in g.H.NamedFilters.named c.args.context.now (tree_of c.args.template.now) in
    let wrote = c.text_with-text.result in
    inl (
      refl,
      page_met (string_bytes wrote.0) run (environment_of c.args.state.now) (environment_of c.text_with-text.new.state) (Ok c.in_ok-page.page) wrote.1 c.text_with-text.ensures.performs
          c.in_ok-page.ensures.page c.in_ok-page.ensures.ran tt,
    )

pub returns-clause-limits : goal.returns-clause-limits
returns-clause-limits g c = unlimited_keeps _ c.in_ok-page.page refl

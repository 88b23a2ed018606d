use Rattle.std.proofs.Common.{inl, refl}
use Rattle.liquid_engine.proofs.LimitedPages.{unlimited_keeps}
use Rattle.liquid_engine.proofs.rendered_page.page_without_limits.Goals as goal

pub returns-clause-page : goal.returns-clause-page
returns-clause-page c = inl (refl, c.in_ok-page.ensures)

pub returns-clause-limits : goal.returns-clause-limits
returns-clause-limits c = unlimited_keeps c.args.around.limits c.in_ok-page.page c.requires

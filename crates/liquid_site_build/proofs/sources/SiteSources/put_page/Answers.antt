use Rattle.std.proofs.Common.{ap, ◌∙◌}
use Rattle.liquid_language.specs.Entries.{seen}
use Rattle.liquid_language.proofs.Inserted.{seen_inserted}
use Rattle.liquid_site_build.specs.SourceViews.{site_text_view, sources_view}
use Rattle.liquid_site_build.proofs.sources.SiteSources.put_page.Goals as goal

pub returns-clause-put : goal.returns-clause-put
returns-clause-put c = ap (λ ts. record (sources_view c.args.self.now) { pages = ts }) (ap (seen site_text_view) c.in_ok-insert.ensures.entries ∙ seen_inserted site_text_view c.args.self.now.pages.entries c.args.path c.args.text)

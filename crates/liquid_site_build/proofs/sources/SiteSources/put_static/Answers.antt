use Rattle.std.proofs.Common.{map, string_bytes, ap, ◌∙◌}
use Rattle.liquid_site_build.specs.SourceViews.{sources_view}
use Rattle.liquid_site_build.proofs.Puts.{names_inserted}
use Rattle.liquid_site_build.proofs.sources.SiteSources.put_static.Goals as goal

pub returns-clause-put : goal.returns-clause-put
returns-clause-put c = ap (λ ns. record (sources_view c.args.self.now) { statics = ns }) (ap (map string_bytes) c.in_ok-insert.ensures.keys ∙ names_inserted c.args.self.now.statics.keys c.args.path)

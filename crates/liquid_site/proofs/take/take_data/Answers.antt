use Rattle.liquid_site.specs.SiteViews.{contents_of}
use Rattle.liquid_site.proofs.Takes.{refused_data}
use Rattle.liquid_site.proofs.take.take_data.Goals as goal

pub returns-clause-taken : goal.returns-clause-taken
returns-clause-taken c = refused_data c.refused.result c.in-Err.error.kind c.as_str.result.now c.in-Text.text c.args.found (contents_of c.args.site.now) c.refused.ensures.not_memory c.in-Err.ensures c.as_str.ensures.value c.in-Text.is

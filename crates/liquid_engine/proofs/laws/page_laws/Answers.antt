use Rattle.liquid_engine.proofs.LenientPages.{lenient_hosted_pages, lenient_pages, none_unknown_in}
use Rattle.liquid_engine.proofs.laws.page_laws.Goals as goal

pub returns-clause-pages : goal.returns-clause-pages
returns-clause-pages c = lenient_pages

pub returns-clause-hosted : goal.returns-clause-hosted
returns-clause-hosted c = lenient_hosted_pages

pub returns-clause-known : goal.returns-clause-known
returns-clause-known c = none_unknown_in

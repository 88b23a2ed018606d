use Rattle.liquid_site.proofs.Untouched.{untouched}
use Rattle.liquid_site.proofs.KeptPages.{kept_from_scratch, pages_kept}
use Rattle.liquid_site.proofs.laws.site_laws.Goals as goal

pub returns-clause-untouched : goal.returns-clause-untouched
returns-clause-untouched c = untouched

pub returns-clause-step : goal.returns-clause-step
returns-clause-step c = kept_from_scratch

pub returns-clause-kept : goal.returns-clause-kept
returns-clause-kept c = pages_kept

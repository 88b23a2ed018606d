use Rattle.liquid_site_build.proofs.Chained.{without_fuel}
use Rattle.liquid_site_build.proofs.OneReading.{one_reading}
use Rattle.liquid_site_build.proofs.Untouched.{untouched_page, untouched_document, kept_is_built}
use Rattle.liquid_site_build.proofs.laws.build_laws.Goals as goal

pub returns-clause-reading : goal.returns-clause-reading
returns-clause-reading c = one_reading

pub returns-clause-fuel : goal.returns-clause-fuel
returns-clause-fuel c = without_fuel

pub returns-clause-pages : goal.returns-clause-pages
returns-clause-pages c = untouched_page

pub returns-clause-documents : goal.returns-clause-documents
returns-clause-documents c = untouched_document

pub returns-clause-kept : goal.returns-clause-kept
returns-clause-kept c = kept_is_built

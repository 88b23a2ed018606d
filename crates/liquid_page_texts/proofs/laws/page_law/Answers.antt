use Rattle.liquid_page_texts.proofs.PageKinds.{kinds_of_pages}
use Rattle.liquid_page_texts.proofs.laws.page_law.Goals as goal

pub returns : goal.returns
returns c = kinds_of_pages

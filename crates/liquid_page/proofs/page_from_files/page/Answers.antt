-- A page that is written leaves what `write_page` leaves, of the texts that were read, and its call ends by that answer.
use Rattle.std.proofs.Common.{ap}
use Rattle.liquid_page_texts.specs.Page.{sources_of}
use Rattle.liquid_page.specs.Read.{page_texts_view}
use Rattle.liquid_page.proofs.Begun.{borrowed_begun, borrowed_ended}
use Rattle.liquid_page.proofs.page_from_files.page.Goals as goal

pub returns-in-Ok-clause-page : goal.returns-in-Ok-clause-page
returns-in-Ok-clause-page g c = borrowed_ended _ _ (page_texts_view c.in-Ok.read) _ _ _ _ _ _ _ c.deref.ensures c.deref-in-Ok.ensures (ap sources_of c.deref-in-Ok-2.ensures.value) c.in-Ok.ensures c.write_page-writer.ensures.page c.from.ensures

pub returns-in-Ok-clause-begun : goal.returns-in-Ok-clause-begun
returns-in-Ok-clause-begun g c = borrowed_begun _ _ (page_texts_view c.in-Ok.read) _ _ _ _ _ c.deref.ensures c.deref-in-Ok.ensures (ap sources_of c.deref-in-Ok-2.ensures.value) c.in-Ok.ensures c.write_page-writer.ensures.begun

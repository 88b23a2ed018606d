use Rattle.std.proofs.lemmas.Result.{err_from_is_err_and}
use Rattle.liquid_page_texts.specs.Page.{PageTexts, sources_of}
use Rattle.liquid_page_texts.specs.Shown.{page_inputs_view}
use Rattle.liquid_page_texts.proofs.Reading.{refused_shown, page_shown}
use Rattle.liquid_page_texts.proofs.page_from_texts.run_without_cleanup.Goals as goal

pub returns-in_err-read-clause-page : goal.returns-in_err-read-clause-page
returns-in_err-read-clause-page g c =
    let texts : PageTexts = record { template = c.args.template.now; «data» = c.args.«data».now; partials = sources_of c.args.partials.now } in
    let p = err_from_is_err_and c.from_residual-in_err-read.result c.from_residual-in_err-read.ensures.1 in
    rw (p.1, p.2) (refused_shown c.in_ok-language.language texts c.in_err-read.field-0.0 (g.W.CountedWrite.contents c.args.writer.now) c.in_ok-language.ensures.standard c.in_err-read.ensures)

pub returns-clause-page : goal.returns-clause-page
returns-clause-page g c =
    let texts : PageTexts = record { template = c.args.template.now; «data» = c.args.«data».now; partials = sources_of c.args.partials.now } in
    page_shown c.in_ok-language.language texts (page_inputs_view c.in_ok-read.read) c.render_texts.result (g.W.CountedWrite.contents c.args.writer.now) (g.W.CountedWrite.contents c.render_texts.new.writer) c.in_ok-language.ensures.standard c.in_ok-read.ensures
    c.render_texts.ensures.whole c.render_texts.ensures.end c.render_texts.ensures.begun

use Rattle.std.proofs.Common.{◌≡◌, rules}
use Rattle.std.proofs.lemmas.Result.{err_from_is_err_and}
use Rattle.liquid_model.specs.declared.error.ErrorKind.TheVariants.{Memory}
use Rattle.liquid_model.specs.View.{pairs_view}
use Rattle.liquid_syntax.specs.Templates.{tree_of}
use Rattle.liquid_page_texts.specs.Page.{PageTexts, sources_of}
use Rattle.liquid_page_texts.proofs.Reading.{template_refused, data_refused, memory_refused, partials_refused, seen_shown}
use Rattle.liquid_page_texts.proofs.page_from_texts.read_texts.Goals as goal
use Rattle.liquid_page_texts.proofs.page_from_texts.read_texts.Goals.{then-ne+in_ok-checked-in-Err, else-ne}

pub returns-in_err-template : goal.returns-in_err-template
returns-in_err-template c =
    let texts : PageTexts = record { template = c.args.template.now; «data» = c.args.«data».now; partials = sources_of c.args.partials.now } in
    let p = err_from_is_err_and c.from_residual.result c.from_residual.ensures.1 in
    rw (p.1, p.2) (template_refused c.args.language.now texts c.in_err-template.field-0.0 c.in_err-template.ensures.parses c.in_err-template.ensures.kinds)

pub returns-in_err-data-in-Ok : goal.returns-in_err-data-in-Ok
returns-in_err-data-in-Ok c =
    let texts : PageTexts = record { template = c.args.template.now; «data» = c.args.«data».now; partials = sources_of c.args.partials.now } in
    let p = err_from_is_err_and c.from_residual-in_err-data-in-Ok.result c.from_residual-in_err-data-in-Ok.ensures.1 in
    rw (p.1, p.2) (data_refused c.args.language.now texts (tree_of c.in_ok-template.template) c.in_err-data-in-Ok.field-0.0 c.in_ok-template.ensures.parses c.in_err-data-in-Ok.ensures)

pub returns-in_ok-data-in-Ok : goal.returns-in_ok-data-in-Ok
returns-in_ok-data-in-Ok c =
    let texts : PageTexts = record { template = c.args.template.now; «data» = c.args.«data».now; partials = sources_of c.args.partials.now } in
    let seen = c.in_ok-data-in-Ok.ensures in
    seen_shown c.args.language.now texts c.in-Ok.partials (tree_of c.in_ok-template.template) seen.0 (pairs_view c.in_ok-data-in-Ok.«data».entries) c.in_ok-template.ensures.parses c.in-Ok.ensures seen.1 seen.2

pub returns-in_err-checked-in-Err : goal.returns-in_err-checked-in-Err
returns-in_err-checked-in-Err c =
    let texts : PageTexts = record { template = c.args.template.now; «data» = c.args.«data».now; partials = sources_of c.args.partials.now } in
    let p = err_from_is_err_and c.from_residual-in_err-checked-in-Err.result c.from_residual-in_err-checked-in-Err.ensures.1 in
    rw (p.1, p.2) (data_refused c.args.language.now texts (tree_of c.in_ok-template.template) c.in_err-checked-in-Err.field-0.0 c.in_ok-template.ensures.parses c.in_err-checked-in-Err.ensures)

pub returns-after-ne : goal.returns-after-ne
returns-after-ne c =
    let texts : PageTexts = record { template = c.args.template.now; «data» = c.args.«data».now; partials = sources_of c.args.partials.now } in
    elim c.if-ne.branch [
      | then-ne+in_ok-checked-in-Err w ↦ partials_refused c.args.language.now texts (tree_of c.in_ok-template.template) (pairs_view w.in_ok-checked-in-Err.checked.entries) c.in-Err.fault c.in_ok-template.ensures.parses w.in_ok-checked-in-Err.ensures c.in-Err.ensures
      | else-ne w ↦ (let is : c.in-Err.fault.kind ≡ Memory = search rules in memory_refused c.args.language.now texts c.in-Err.fault is)
    ]

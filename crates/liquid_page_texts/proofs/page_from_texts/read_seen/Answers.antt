use Rattle.std.proofs.lemmas.Result.{err_from_is_err_and}
use Rattle.liquid_model.specs.UseViews.{uses_view}
use Rattle.liquid_syntax.specs.Templates.{tree_of}
use Rattle.liquid_page_texts.proofs.Reading.{memory_faulted, seen_by, whole_by}
use Rattle.liquid_page_texts.proofs.page_from_texts.read_seen.Goals as goal

pub returns-in_err-uses : goal.returns-in_err-uses
returns-in_err-uses c =
    let p = err_from_is_err_and c.from_residual.result c.from_residual.ensures.1 in
    rw (p.1, p.2) (memory_faulted c.args.«data».now c.args.partials.now (tree_of c.args.template.now) c.in_err-uses.field-0.0 c.in_err-uses.ensures.memory)

pub returns : goal.returns
returns c = seen_by c.args.«data».now c.args.partials.now (tree_of c.args.template.now) (uses_view c.in_ok-uses.uses) c.data_for.result c.in_ok-uses.ensures.alone c.data_for.ensures.alike

pub returns-then-not-is_long : goal.returns-then-not-is_long
returns-then-not-is_long c = whole_by c.args.«data».now c.args.partials.now (tree_of c.args.template.now) c.data_from_json.result c.data_from_json.ensures

use Rattle.std.proofs.Common.{sym, ◌∙◌, not, Bool, true, false, ◌≡◌, refl}
use Rattle.std.proofs.lemmas.Result.{err_from_is_err_and}
use Rattle.liquid_model.specs.View.{pairs_view}
use Rattle.liquid_yaml.specs.Reading.{document_view}
use Rattle.liquid_yaml.proofs.Turns.{front_closed, front_faulted, front_whole, no_members}
use Rattle.liquid_yaml.proofs.reading.front_matter.Goals as goal

pub returns-then-not-opens : goal.returns-then-not-opens
returns-then-not-opens c = front_closed c.args.source.now c.first_part.result c.first_part.ensures (sym c.opens.ensures ∙ c.if-not-opens.true)

pub returns-in_err-found : goal.returns-in_err-found
returns-in_err-found c =
    let p = err_from_is_err_and c.from_residual.result c.from_residual.ensures.1 in
    rw (p.1, p.2) (front_faulted c.args.source.now c.first_part.result c.in_err-found.field-0.0.kind c.first_part.ensures (sym c.opens.ensures ∙ c.if-not-opens.false) c.in_err-found.ensures)

pub returns-in_err-yaml_members : goal.returns-in_err-yaml_members
returns-in_err-yaml_members c =
    let p = err_from_is_err_and c.from_residual-in_err-yaml_members.result c.from_residual-in_err-yaml_members.ensures.1 in
    rw (p.1, p.2) (no_members c.args.source.now c.first_part.result c.in_err-yaml_members.field-0.0.kind (document_view c.in_ok-found.found) c.first_part.ensures (sym c.opens.ensures ∙ c.if-not-opens.false) c.in_ok-found.ensures c.in_err-yaml_members.ensures)

pub returns : goal.returns
returns c =
    front_whole c.args.source.now c.first_part.result (document_view c.in_ok-found.found) (pairs_view c.in_ok-yaml_members.field-0.entries) c.first_part.ensures (sym c.opens.ensures ∙ c.if-not-opens.false) c.in_ok-found.ensures c.in_ok-yaml_members.ensures

use Rattle.std.proofs.Common.{ap, sym, ◌∙◌, Some, false}
use Rattle.std.proofs.lemmas.Result.{err_from_is_err_and}
use Rattle.liquid_yaml.specs.Bytes.{parts_left}
use Rattle.liquid_yaml.specs.Places.{nothing_read}
use Rattle.liquid_yaml.specs.Reading.{read_on, value_found, yaml_value}
use Rattle.liquid_yaml.proofs.Turns.{faulted_on, read_lines}
use Rattle.liquid_yaml.proofs.reading.value_from_yaml.Goals as goal

pub returns-in_err-found : goal.returns-in_err-found
returns-in_err-found c =
    let p = err_from_is_err_and c.from_residual.result c.from_residual.ensures.1 in
    rw (p.1, p.2) (faulted_on c.in_err-found.field-0.0.kind _ (yaml_value c.args.text.now)
    (λ e. read_lines c.args.text.now (sym c.ends_with_return.ensures ∙ c.if-ends_with_return.false)
    ∙ sym (ap (λ o. value_found (read_on false (Some nothing_read) (parts_left 10 o))) c.yaml_content-before.ensures) ∙ ap value_found e) c.in_err-found.ensures)

pub returns : goal.returns
returns c =
    read_lines c.args.text.now (sym c.ends_with_return.ensures ∙ c.if-ends_with_return.false)
    ∙ sym (ap (λ o. value_found (read_on false (Some nothing_read) (parts_left 10 o))) c.yaml_content-before.ensures) ∙ ap value_found c.in_ok-found.ensures

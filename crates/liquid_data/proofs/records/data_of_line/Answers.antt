use Rattle.std.proofs.Common.{true, ◌≡◌}
use Rattle.std.specs.Prelude.{◌||◌}
use Rattle.liquid_data.proofs.LineReadings.{first_asked, formed, second_asked, unformed, invalid_utf8, wanted_kind}
use Rattle.liquid_data.proofs.records.data_of_line.Goals as goal
use Rattle.liquid_data.proofs.records.data_of_line.Goals.{else-not-form-via-then-not-form+else-not-form-2, else-not-form-via-else-not-form}

pub returns-in_default : goal.returns-in_default
returns-in_default c = invalid_utf8 c.args.form c.args.line.now c.in_default.ensures.cases.0

pub returns-then-not-form-2 : goal.returns-then-not-form-2
returns-then-not-form-2 c = unformed c.args.form c.args.line.now c.in-Ok.text.now c.in-Ok.ensures.cases c.if-not-form.true c.if-not-form-2.true

pub returns-in-Ok-data_in_form : goal.returns-in-Ok-data_in_form
returns-in-Ok-data_in_form c =
    let asked : (c.args.form.decimals_as_texts || c.args.form.dates) ≡ true = elim c.else-not-form.branch [
      | else-not-form-via-then-not-form+else-not-form-2 w ↦ second_asked c.args.form.decimals_as_texts c.args.form.dates w.if-not-form-2.false
      | else-not-form-via-else-not-form w ↦ first_asked c.args.form.decimals_as_texts c.args.form.dates w.if-not-form.false
    ] in
    formed c.args.form c.args.line.now c.in-Ok.text.now _ c.in-Ok.ensures.cases asked c.in-Ok-data_in_form.ensures

pub returns-in_default-kind : goal.returns-in_default-kind
returns-in_default-kind c =
    let asked : (c.args.form.decimals_as_texts || c.args.form.dates) ≡ true = elim c.else-not-form.branch [
      | else-not-form-via-then-not-form+else-not-form-2 w ↦ second_asked c.args.form.decimals_as_texts c.args.form.dates w.if-not-form-2.false
      | else-not-form-via-else-not-form w ↦ first_asked c.args.form.decimals_as_texts c.args.form.dates w.if-not-form.false
    ] in
    formed c.args.form c.args.line.now c.in-Ok.text.now _ c.in-Ok.ensures.cases asked (wanted_kind c.in-Err.fault.kind _ c.in_default-kind.not-Memory c.in-Err.ensures)

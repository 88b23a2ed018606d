use Rattle.liquid_data.proofs.LineReadings.{text_lacking, text_there}
use Rattle.liquid_data.proofs.records.line_text.Goals as goal

pub returns-in-Ok : goal.returns-in-Ok
returns-in-Ok c = text_there c.args.line.now c.in-Ok.text.now c.in-Ok.ensures.cases

pub returns-in-Err : goal.returns-in-Err
returns-in-Err c = text_lacking c.args.line.now c.in-Err.ensures.cases.0

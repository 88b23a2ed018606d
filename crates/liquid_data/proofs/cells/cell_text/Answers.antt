use Rattle.liquid_data.proofs.Texts.{no_text, text_there}
use Rattle.liquid_data.proofs.cells.cell_text.Goals as goal

pub returns-in-Ok : goal.returns-in-Ok
returns-in-Ok c = text_there c.args.cell.now c.in-Ok.text.now c.in-Ok.ensures.cases

pub returns-in-Err : goal.returns-in-Err
returns-in-Err c = no_text c.args.cell.now c.in-Err.ensures.cases.0

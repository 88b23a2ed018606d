use Rattle.std.proofs.Common.{◌∙◌}
use Rattle.liquid_data.proofs.Texts.{byte_read, text_read}
use Rattle.liquid_data.proofs.cells.cell_read.Goals as goal

pub returns-in-Ok : goal.returns-in-Ok
returns-in-Ok c = text_read c.args.cell.now c.in-Ok.text.now c.in-Ok.ensures.cases

pub returns-in-Err : goal.returns-in-Err
returns-in-Err c = byte_read c.args.cell.now _ _ c.in-Err.ensures.cases.0 (c.valid_up_to.ensures ∙ c.in-Err.ensures.valid_len) c.saturating_add.ensures

use Rattle.std.proofs.Common.{codes}
use Rattle.liquid_warnings.proofs.AddedRemarks.{warns}
use Rattle.liquid_warnings.proofs.shapes.number_date_in.Goals as goal

pub returns : goal.returns
returns c = (c.args.path.now, warns _ c.args.at (codes "NumberDate") _ _ c.warning.ensures c.in_ok-message.ensures)

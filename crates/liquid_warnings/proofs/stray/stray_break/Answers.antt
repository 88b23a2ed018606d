use Rattle.std.proofs.Common.{codes}
use Rattle.liquid_warnings.proofs.AddedRemarks.{warns}
use Rattle.liquid_warnings.proofs.stray.stray_break.Goals as goal

pub returns : goal.returns
returns c = (c.args.stray.name.now, warns _ c.args.stray.position (codes "StrayBreak") _ _ c.warning.ensures c.in_ok-message.ensures)

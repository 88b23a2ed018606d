use Rattle.std.proofs.Common.{codes}
use Rattle.liquid_warnings.proofs.AddedRemarks.{warns}
use Rattle.liquid_warnings.proofs.doubts.past_end_in.Goals as goal

pub returns : goal.returns
returns c = (c.args.path.now, c.args.count, warns _ c.args.at (codes "PastEnd") _ _ c.warning.ensures c.in_ok-message.ensures)

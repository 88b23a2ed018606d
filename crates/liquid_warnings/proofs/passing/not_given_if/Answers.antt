use Rattle.std.proofs.Common.{codes}
use Rattle.liquid_warnings.proofs.AddedRemarks.{warns}
use Rattle.liquid_warnings.proofs.passing.not_given_if.Goals as goal

pub returns : goal.returns
returns c = (c.args.name.now, warns _ c.args.position (codes "NotGiven") _ _ c.warning.ensures c.in_ok-message.ensures)

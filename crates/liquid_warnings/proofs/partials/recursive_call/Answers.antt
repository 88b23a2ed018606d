use Rattle.liquid_warnings.proofs.AddedRemarks.{warns}
use Rattle.std.proofs.Common.{codes}
use Rattle.liquid_warnings.proofs.partials.recursive_call.Goals as goal

pub returns : goal.returns
returns c = (c.unwrap_or.result.now, warns _ _ (codes "RecursivePartial") _ _ c.warning.ensures c.in_ok-message.ensures)

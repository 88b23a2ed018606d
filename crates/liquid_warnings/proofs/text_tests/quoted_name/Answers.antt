use Rattle.std.proofs.Common.{codes}
use Rattle.liquid_warnings.proofs.AddedRemarks.{warns}
use Rattle.liquid_warnings.proofs.text_tests.quoted_name.Goals as goal

pub returns : goal.returns
returns c = (c.args.quoted.name.now, warns _ c.args.quoted.position (codes "QuotedName") _ _ c.warning.ensures c.in_ok-message.ensures)

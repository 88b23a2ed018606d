use Rattle.std.proofs.Common.{codes}
use Rattle.liquid_warnings.proofs.AddedRemarks.{warns}
use Rattle.liquid_warnings.proofs.doubts.truth_text_in.Goals as goal

pub returns : goal.returns
returns c = (c.args.path.now, c.args.text.now, warns _ c.args.at (codes "TextTruth") _ _ c.warning.ensures c.in_ok-message.ensures)

use Rattle.std.proofs.Common.{◌∙◌, ap, codes}
use Rattle.liquid_model.specs.View.{view}
use Rattle.liquid_warnings.specs.Messages.{no_text}
use Rattle.liquid_warnings.proofs.AddedRemarks.{warns}
use Rattle.liquid_warnings.proofs.doubts.no_text_in.Goals as goal

pub returns : goal.returns
returns c = (c.args.path.now, view c.args.value.now, warns _ c.args.at (codes "NoText") _ _ c.warning.ensures (c.in_ok-message.ensures ∙ ap (no_text c.args.path.now) c.kind_word.ensures))

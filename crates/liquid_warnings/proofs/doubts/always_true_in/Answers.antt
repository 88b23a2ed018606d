use Rattle.std.proofs.Common.{◌∙◌, ap, codes}
use Rattle.liquid_model.specs.View.{view}
use Rattle.liquid_warnings.specs.Messages.{always_true}
use Rattle.liquid_warnings.proofs.AddedRemarks.{warns}
use Rattle.liquid_warnings.proofs.doubts.always_true_in.Goals as goal

pub returns : goal.returns
returns c = (c.args.path.now, view c.args.value.now, warns _ c.args.at (codes "AlwaysTrue") _ _ c.warning.ensures (c.in_ok-message.ensures ∙ ap (always_true c.args.path.now) (c.as_str.ensures.value ∙ c.in_ok-words.ensures)))

use Rattle.std.proofs.Common.{◌∙◌, ap, codes}
use Rattle.liquid_model.specs.View.{view}
use Rattle.liquid_warnings.specs.Messages.{no_other}
use Rattle.liquid_warnings.proofs.AddedRemarks.{warns}
use Rattle.liquid_warnings.proofs.shapes.no_number_in.Goals as goal

pub returns : goal.returns
returns c = (c.args.path.now, view c.args.value.now, warns _ c.args.at (codes "NoNumber") _ _ c.warning.ensures (c.in_ok-message.ensures ∙ ap (λ k. no_other c.args.path.now k (codes "number")) c.kind_word.ensures))

use Rattle.std.proofs.Common.{◌∙◌}
use Rattle.liquid_model.specs.View.{view}
use Rattle.liquid_warnings.proofs.AddedRemarks.{unlisted}
use Rattle.liquid_warnings.proofs.doubts.no_list_in.Goals as goal

pub returns : goal.returns
returns c = unlisted _ c.args.at _ c.args.path.now (view c.args.value.now) c.in_ok-no_list_of.ensures (c.as_str.ensures.value ∙ c.in_ok-path.ensures)

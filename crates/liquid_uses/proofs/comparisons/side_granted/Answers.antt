use Rattle.std.proofs.Common.{sym, ◌∙◌}
use Rattle.liquid_core.specs.ExpressionView.{expression_view}
use Rattle.liquid_meaning.specs.Reading.{use_beside}
use Rattle.liquid_uses.proofs.comparisons.side_granted.Goals as goal

pub returns : goal.returns
returns c = λ h. c.reached.ensures (use_beside c.args.comparison (expression_view c.args.other.now)) (sym c.gives_beside.ensures ∙ h)

use Rattle.liquid_core.specs.ExpressionView.{expression_view}
use Rattle.std.proofs.Common.{◌∙◌, sym, ap}
use Rattle.liquid_parser.specs.inside.Building.{last_ended}
use Rattle.liquid_syntax.specs.Flats.{arm_ends, arm_values, flat_of}
use Rattle.liquid_syntax.specs.declared.node.Node.{Node}
use Rattle.liquid_parser.proofs.Arms.{case_last}
use Rattle.liquid_parser.proofs.body_ends.end_last.Goals as goal

pub returns-in-Case : goal.returns-in-Case
returns-in-Case c =
    let i = c.in-Case in
    case_last (expression_view i.field-0) (arm_values i.field-1.items) (arm_ends i.field-1.items) c.args.end i.last_end
    ∙ ap (λ (n : Node). last_ended c.args.end (flat_of n)) (sym i.is)

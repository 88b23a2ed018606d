use Rattle.std.proofs.Common.{refl}
use Rattle.liquid_core.specs.ExpressionView.{expression_view}
use Rattle.liquid_engine.proofs.Cases.{case_ends}
use Rattle.liquid_engine.proofs.node_ends.next_after.Goals as goal

pub returns-in-Case : goal.returns-in-Case
returns-in-Case c n next there =
    case_ends c.args.nodes.now c.args.at (expression_view c.in-Case.field-0) c.in-Case.field-1.items c.in-Case.end c.args.to c.index-nodes-at.result _ c.requires c.index-nodes-at.is c.in-Case.is refl n next there

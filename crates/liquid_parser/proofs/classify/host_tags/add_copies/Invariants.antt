use Rattle.std.proofs.Common.{◌≡◌, ◌++◌, map, drop}
use Rattle.liquid_core.specs.ExpressionView.{expression_view}
use Rattle.liquid_parser.proofs.classify.host_tags.add_copies.Given as goal

abbrev pub invariant-loop-expression : goal.invariant-loop-expression
invariant-loop-expression l =
    map expression_view l.initial.expressions.items ++ map expression_view l.given ≡ map expression_view l.expressions.items ++ map expression_view (drop l.expression-index l.given)

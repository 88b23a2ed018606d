-- The source of the tree that a `RangeExpression` stands for, and what a `Range` is.
use Rattle.liquid_model.specs.Cow.{cow_view}
use Rattle.liquid_core.specs.ExpressionView.{expression_view}
use Rattle.liquid_evaluation.specs.Tree.{Source, each_of, counted}
use Rattle.liquid_evaluation.specs.Ranges as ranges
use Rattle.liquid_evaluation.specs.declared.range_expression.RangeExpression.{RangeExpression}
use Rattle.liquid_evaluation.specs.declared.range_expression.RangeExpression.TheVariants as sources
use Rattle.liquid_evaluation.specs.declared.range.Range.{Range}
use Rattle.liquid_evaluation.specs.declared.range.Range.TheVariants.{Array, Counted}

abbrev pub source_view : RangeExpression → Source
source_view (sources.Array x) = each_of (expression_view x)
source_view (sources.Counted x y) = counted (expression_view x) (expression_view y)

abbrev pub range_view : Range → ranges.Range
range_view (Array value) = ranges.items_in (cow_view value)
range_view (Counted a b) = ranges.between a b

use Rattle.std.proofs.Common.{sym, ◌∙◌}
use Rattle.liquid_core.specs.ExpressionView.{expression_view}
use Rattle.liquid_evaluation.specs.declared.comparison.ComparisonOperator.TheVariants.{Equals}
use Rattle.liquid_model.specs.UseViews.{uses_view}
use Rattle.liquid_meaning.specs.Reading.{use_beside}
use Rattle.liquid_uses.proofs.EachGrants.{both_sides}
use Rattle.liquid_uses.proofs.comparisons.value_granted.Goals as goal

pub returns-then-gives_beside : goal.returns-then-gives_beside
returns-then-gives_beside c = λ reached holds.
    both_sides (uses_view c.args.uses.now) (expression_view c.args.target.now) Equals (expression_view c.args.value.now)
    (reached (use_beside Equals (expression_view c.args.value.now)) (sym c.gives_beside.ensures ∙ c.if-gives_beside.true)) (c.side_granted.ensures holds)

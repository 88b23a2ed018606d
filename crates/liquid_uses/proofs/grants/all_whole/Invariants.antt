use Rattle.std.proofs.Common.{◌≡◌, true, drop, map}
use Rattle.liquid_core.specs.ExpressionView.{expression_view}
use Rattle.liquid_model.specs.UseViews.{uses_view}
use Rattle.liquid_meaning.specs.Reading.{grants_all}
use Rattle.liquid_uses.proofs.grants.all_whole.Given as goal

-- where those that are left pass, all do
abbrev pub invariant-loop-expression : goal.invariant-loop-expression
invariant-loop-expression l = grants_all (uses_view l.uses) (map expression_view (drop l.expression-index l.expressions)) ≡ true → grants_all (uses_view l.uses) (map expression_view l.expressions) ≡ true

use Rattle.std.proofs.Common.{◌≡◌, true, map, sym, ap}
use mathlib.Core.Path.{subst}
use Rattle.liquid_core.specs.ExpressionView.{expression_view}
use Rattle.liquid_evaluation.specs.ChainView.{chain_filter_view}
use Rattle.liquid_evaluation.specs.StoredFilters.{stored_view}
use Rattle.liquid_meaning.specs.FilterNeeds.{filter_needs, known_needs}
use Rattle.liquid_model.specs.Uses.{present}
use Rattle.liquid_uses.specs.inside.Chains.{sees}
use Rattle.liquid_uses.proofs.Chains.{never}
use Rattle.liquid_uses.proofs.chain_places.ChainPlace.after.Goals as goal

pub returns-then-is_whole : goal.returns-then-is_whole
returns-then-is_whole c = λ w h. c.is_whole.ensures (present (known_needs (chain_filter_view c.args.filter.now) w)) c.if-is_whole.true

pub returns-in-Kind : goal.returns-in-Kind
returns-in-Kind c = λ w h.
    let passes = rw c.deref.ensures.value at c.after_kind.ensures in
    subst (λ f. sees c.args.self (present (filter_needs f (map expression_view c.args.filter.now.arguments.items) w)) ≡ true) (sym (ap stored_view c.in-Kind.is)) (passes w h)

pub returns-in-Host : goal.returns-in-Host
returns-in-Host c = λ w h. never (sees c.refused.result w) (c.refused.ensures w) h _

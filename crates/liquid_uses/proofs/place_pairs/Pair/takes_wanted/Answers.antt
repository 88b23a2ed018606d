use Rattle.std.proofs.Common.{◌≡◌, true, sym, ap, ◌∙◌}
use mathlib.Core.Path.{subst}
use Rattle.liquid_model.specs.Uses.{items_wanted, of_places, use_of_each}
use Rattle.liquid_model.specs.UseViews.{members_view, turns_view, use_view}
use Rattle.liquid_model.proofs.UseViews.{view-Nothing, view-Everything, view-Parts}
use Rattle.liquid_uses.specs.inside.Chains.{takes}
use Rattle.liquid_uses.proofs.Chains.{takes_join}
use Rattle.liquid_uses.proofs.place_pairs.Pair.takes_wanted.Goals as goal

pub returns-in-Nothing : goal.returns-in-Nothing
returns-in-Nothing c = λ h. subst (λ u. takes c.args.self (items_wanted u) ≡ true) (sym (ap use_view c.in-Nothing.is ∙ view-Nothing)) (c.is_open.ensures h)

pub returns-in-Everything : goal.returns-in-Everything
returns-in-Everything c = λ h. subst (λ u. takes c.args.self (items_wanted u) ≡ true) (sym (ap use_view c.in-Everything.is ∙ view-Everything)) (c.is_whole.ensures h)

pub returns-then-each : goal.returns-then-each
returns-then-each c = λ h.
    let view = ap use_view c.in-Parts.is ∙ view-Parts c.in-Parts.members c.in-Parts.items in
    subst (λ u. takes c.args.self (items_wanted u) ≡ true) (sym view)
    (takes_join (use_of_each (turns_view c.in-Parts.items)) (of_places (members_view c.in-Parts.members.entries)) c.args.self (c.takes_each-each.ensures c.if-each.true) (c.takes_places-places.ensures h))

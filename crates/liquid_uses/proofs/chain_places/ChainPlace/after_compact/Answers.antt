use Rattle.std.proofs.Common.{◌≡◌, true, [], map, sym, ap, ◌∙◌}
use mathlib.Core.Path.{subst}
use Rattle.liquid_core.specs.ExpressionView.{expression_view}
use Rattle.liquid_meaning.specs.FilterNeeds.{compact_needs, with_field}
use Rattle.liquid_model.specs.Uses.{items_wanted, present, there}
use Rattle.liquid_uses.specs.inside.Chains.{sees}
use Rattle.liquid_uses.proofs.Chains.{compact_named, empty_list, never}
use Rattle.liquid_uses.proofs.chain_places.ChainPlace.after_compact.Goals as goal

pub returns-in-Some : goal.returns-in-Some
returns-in-Some c = λ w h.
    let item = items_wanted w in
    let name = c.in-Some.name.now in
    subst (λ u. sees c.args.self (present u) ≡ true) (sym (compact_named (map expression_view c.args.arguments.now) name w c.in-Some.ensures))
    (c.items-items.ensures (with_field name there item) (c.with_present.ensures item h))

pub returns-then-is_empty : goal.returns-then-is_empty
returns-then-is_empty c = λ w h.
    let none : map expression_view c.args.arguments.now ≡ [] = ap (map expression_view) (empty_list c.args.arguments.now (sym c.is_empty.ensures ∙ c.if-is_empty.true)) in
    subst (λ xs. sees c.args.self (present (compact_needs xs w)) ≡ true) (sym none) (c.items-items.ensures (present (items_wanted w)) (c.present.ensures (items_wanted w) h))

pub returns-else-is_empty : goal.returns-else-is_empty
returns-else-is_empty c = λ w h. never (sees c.refused.result w) (c.refused.ensures w) h _

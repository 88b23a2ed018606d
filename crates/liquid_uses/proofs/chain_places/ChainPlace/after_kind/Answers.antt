use Rattle.std.proofs.Common.{◌≡◌, true, List, map, refl, sym}
use mathlib.Core.Path.{subst}
use Rattle.liquid_core.specs.Expression.{Expression}
use Rattle.liquid_core.specs.ExpressionView.{expression_view}
use Rattle.liquid_filters.specs.declared.kind.FilterKind.{FilterKind}
use Rattle.liquid_meaning.specs.FilterNeeds.{kind_needs}
use Rattle.liquid_model.specs.Uses.{Use, items_wanted, present}
use Rattle.liquid_uses.specs.declared.chain_places.ChainPlace.{ChainPlace}
use Rattle.liquid_uses.specs.inside.Chains.{sees}
use Rattle.liquid_uses.proofs.Chains.{never}
use Rattle.liquid_uses.proofs.chain_places.ChainPlace.after_kind.Goals as goal

of_kind : (s : ChainPlace) (kind k : FilterKind) (xs : List Expression) (w : Use) → kind ≡ k → sees s (present (kind_needs k xs w)) ≡ true → sees s (present (kind_needs kind xs w)) ≡ true
of_kind s kind k xs w is h = subst (λ k. sees s (present (kind_needs k xs w)) ≡ true) (sym is) h

pub returns-in-Size : goal.returns-in-Size
returns-in-Size c = λ w h. of_kind c.args.self c.args.kind _ (map expression_view c.args.arguments.now) w c.in-Size.is (c.after_size.ensures w h)

pub returns-in-First : goal.returns-in-First
returns-in-First c = λ w h. of_kind c.args.self c.args.kind _ (map expression_view c.args.arguments.now) w c.in-First.is (c.after_end.ensures w refl h)

pub returns-in-Last : goal.returns-in-Last
returns-in-Last c = λ w h. of_kind c.args.self c.args.kind _ (map expression_view c.args.arguments.now) w c.in-Last.is (c.after_end-in-Last.ensures w refl h)

pub returns-in-Reverse : goal.returns-in-Reverse
returns-in-Reverse c = λ w h. of_kind c.args.self c.args.kind _ (map expression_view c.args.arguments.now) w c.in-Reverse.is (c.items.ensures (items_wanted w) h)

pub returns-in-Concat : goal.returns-in-Concat
returns-in-Concat c = λ w h. of_kind c.args.self c.args.kind _ (map expression_view c.args.arguments.now) w c.in-Concat.is (c.items-in-Concat.ensures (items_wanted w) h)

pub returns-in-Map : goal.returns-in-Map
returns-in-Map c = λ w h. of_kind c.args.self c.args.kind _ (map expression_view c.args.arguments.now) w c.in-Map.is (c.after_map.ensures w h)

pub returns-in-Where : goal.returns-in-Where
returns-in-Where c = λ w h. of_kind c.args.self c.args.kind _ (map expression_view c.args.arguments.now) w c.in-Where.is (c.after_order.ensures w h)

pub returns-in-Sort : goal.returns-in-Sort
returns-in-Sort c = λ w h. of_kind c.args.self c.args.kind _ (map expression_view c.args.arguments.now) w c.in-Sort.is (c.after_order-in-Sort.ensures w h)

pub returns-in-SortNatural : goal.returns-in-SortNatural
returns-in-SortNatural c = λ w h. of_kind c.args.self c.args.kind _ (map expression_view c.args.arguments.now) w c.in-SortNatural.is (c.after_order-in-SortNatural.ensures w h)

pub returns-in-Compact : goal.returns-in-Compact
returns-in-Compact c = λ w h. of_kind c.args.self c.args.kind _ (map expression_view c.args.arguments.now) w c.in-Compact.is (c.after_compact.ensures w h)

pub returns-in-Default : goal.returns-in-Default
returns-in-Default c = λ w h. of_kind c.args.self c.args.kind _ (map expression_view c.args.arguments.now) w c.in-Default.is (c.after_default.ensures w h)

pub returns-in_default : goal.returns-in_default
returns-in_default c = λ w h. never (sees c.refused.result w) (c.refused.ensures w) h _

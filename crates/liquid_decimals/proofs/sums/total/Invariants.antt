use Rattle.std.proofs.Common.{◌≡◌, ◌≤◌, drop, option_map}
use Rattle.liquid_model.specs.Lists.{list_of}
use Rattle.liquid_model.specs.View.{items_view}
use Rattle.liquid_decimals.specs.Sums.{decimal_total, zero}
use Rattle.liquid_decimals.proofs.sums.total.Given as goal

abbrev pub invariant-loop-item : goal.invariant-loop-item
invariant-loop-item l =
    let name = option_map (λ s. s.now) l.name in
    (l.sum.1.0 ≤ 18) × (decimal_total name zero (list_of (items_view l.items)) ≡ decimal_total name (record { units = l.sum.0; places = l.sum.1.0 }) (list_of (items_view (drop l.item-index l.items))))

use Rattle.std.proofs.Common.{◌≡◌, drop}
use Rattle.liquid_data.specs.Floats.{are_floats, have_floats}
use Rattle.toml.specs.View.{items_view, members_view}
use Rattle.liquid_data.proofs.floats.+floats.Given as goal

-- none was found, so what is left tells what all do
abbrev pub invariant-has_floats-loop-value : goal.invariant-has_floats-loop-value
invariant-has_floats-loop-value l =
    have_floats (members_view l.initial.value-iterator) ≡ have_floats (members_view l.value-iterator)

abbrev pub invariant-are_floats-loop-item : goal.invariant-are_floats-loop-item
invariant-are_floats-loop-item l =
    are_floats (items_view l.item-items) ≡ are_floats (items_view (drop l.item-index l.item-items))

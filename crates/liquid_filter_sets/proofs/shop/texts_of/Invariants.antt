use Rattle.std.proofs.Common.{◌≡◌, ◌++◌, drop}
use Rattle.liquid_model.specs.View.{items_view}
use Rattle.liquid_filter_sets.specs.Settings.{texts_of}
use Rattle.liquid_filter_sets.specs.Views.{texts_view}
use Rattle.liquid_filter_sets.proofs.shop.texts_of.Given as goal

-- the texts that are found and those of what is left are all
abbrev pub invariant-loop-item : goal.invariant-loop-item
invariant-loop-item l = texts_of (items_view l.items)
    ≡ texts_view l.texts ++ texts_of (items_view (drop l.item-index l.items))

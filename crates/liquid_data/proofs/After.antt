-- Items that stand before others.
use Rattle.std.proofs.Common.{◌≡◌, List, [], ◌∷◌, ◌++◌, refl, ap}
use Rattle.liquid_model.specs.Data.{Items, no_items, item}
use Rattle.liquid_model.specs.View.{view, items_view}
use Rattle.liquid_model.specs.declared.value.Value.{Value}

abbrev pub after : List Value → Items → Items
after [] es = es
after (v ∷ vs) es = item (view v) (after vs es)

pub after_next : (vs : List Value) (v : Value) (es : Items) → after vs (item (view v) es) ≡ after (vs ++ v ∷ []) es
after_next [] v es = refl
after_next (x ∷ vs) v es = ap (item (view x)) (after_next vs v es)

pub after_none : (vs : List Value) → after vs no_items ≡ items_view vs
after_none [] = refl
after_none (v ∷ vs) = ap (item (view v)) (after_none vs)

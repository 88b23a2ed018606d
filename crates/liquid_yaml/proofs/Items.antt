-- Items that stand before others.
use Rattle.std.proofs.Common.{◌≡◌, List, [], ◌∷◌, ◌++◌, Option, Some, None, refl, ap}
use Rattle.liquid_model.specs.Data.{Datum, Items, no_items, item}
use Rattle.liquid_model.specs.View.{view, items_view}
use Rattle.liquid_model.specs.declared.value.Value.{Value}
use Rattle.liquid_yaml.specs.Places.{with_last}
use Rattle.liquid_yaml.specs.Flows.{with_item}

abbrev pub before : List Value → Option Items → Option Items
before [] o = o
before (v ∷ vs) o = with_item (Some (view v)) (before vs o)

pub before_next : (vs : List Value) (v : Value) (o : Option Items) → before vs (with_item (Some (view v)) o) ≡ before (vs ++ v ∷ []) o
before_next [] v o = refl
before_next (x ∷ vs) v o = ap (with_item (Some (view x))) (before_next vs v o)

pub before_none : (vs : List Value) → before vs (Some no_items) ≡ Some (items_view vs)
before_none [] = refl
before_none (v ∷ vs) = ap (with_item (Some (view v))) (before_none vs)

pub before_refused : (vs : List Value) → before vs None ≡ None
before_refused [] = refl
before_refused (v ∷ vs) = ap (with_item (Some (view v))) (before_refused vs)

pub with_none : (d : Option Datum) → with_item d None ≡ None
with_none None = refl
with_none (Some d) = refl

pub none_with : (o : Option Items) → with_item None o ≡ None
none_with None = refl
none_with (Some ds) = refl

-- one more item at the end
pub items_push : (vs : List Value) (v : Value) → items_view (vs ++ v ∷ []) ≡ with_last (items_view vs) (view v)
items_push [] v = refl
items_push (x ∷ vs) v = ap (item (view x)) (items_push vs v)

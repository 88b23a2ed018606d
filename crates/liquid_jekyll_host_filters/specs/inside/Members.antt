-- Maps and sets by which items are grouped.
use Rattle.std.specs.Prelude.{◌≡◌, ℕ, List, [], ◌∷◌, String, Vec, map, if◌then◌else◌}
use Rattle.std.specs.Borrow.{Bor}
use Rattle.std.specs.BTreeMap.{BTreeMap, get_by_text}
use Rattle.std.specs.BTreeSet.{BTreeSet, contains_text}
use Rattle.std.specs.Option.{option_map_or}
use Rattle.std.specs.declared.alloc.Global.{Global}
use Rattle.liquid_model.specs.Data.{Datum}
use Rattle.liquid_model.specs.Texts.{Text, same_text}
use Rattle.liquid_model.specs.View.{view}
use Rattle.liquid_model.specs.declared.value.Value.{Value}
use Rattle.liquid_jekyll_host_filters.specs.Groups.{has_text}

-- the items of a text, or none
abbrev pub items_under : BTreeMap (String Global) (Vec (Bor Value) Global) → Text → List (Bor Value)
items_under m t = option_map_or (λ g. g.items) (get_by_text m t) []

abbrev pub members_of : BTreeMap (String Global) (Vec (Bor Value) Global) → Text → List Datum
members_of m t = map (λ v. view v.now) (items_under m t)

-- what an item of the text t adds to those of the text q
abbrev pub item_if_named : Text → Bor Value → Text → List (Bor Value)
item_if_named t item q = if same_text q t then item ∷ [] else []

abbrev pub member_if_named : Text → Datum → Text → List Datum
member_if_named t d q = if same_text q t then d ∷ [] else []

-- the set has these texts
abbrev pub AreSeen : BTreeSet (String Global) → List Text → Type 0
AreSeen seen us = (q : List ℕ) → contains_text seen q ≡ has_text q us

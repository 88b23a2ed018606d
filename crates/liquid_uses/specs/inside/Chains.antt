-- What may be asked of the value that reaches a filter of a chain.
--     takes r u      both places ask all that u asks, and u is plain where that is wanted
--     sees s v      v may be asked of the value
--     CoversCall s call next      what may be asked of the call's answer asks no more of its input
--       than may be asked of that
use Rattle.std.specs.Prelude.{◌≡◌, Bool, true, false, ◌&&◌, ◌||◌, not, List, codes}
use Rattle.liquid_core.specs.Expression.{Expression, literal}
use Rattle.liquid_filters.specs.declared.kind.FilterKind.{FilterKind}
use Rattle.liquid_evaluation.specs.Tree.{FilterCall}
use Rattle.liquid_model.specs.Data.{text}
use Rattle.liquid_model.specs.Texts.{Text, same_text}
use Rattle.liquid_model.specs.Uses.{Use, nothing, everything, parts, Fields, no_fields, field}
use Rattle.liquid_model.specs.Uses.{has_every, is_place, items_wanted, present}
use Rattle.liquid_meaning.specs.FilterNeeds.{by_property, kind_needs, known_needs}
use Rattle.liquid_meaning.specs.FilterNeeds.{literal_first_argument}
use Rattle.liquid_uses.specs.declared.chain_places.ChainPlace.{ChainPlace}
use Rattle.liquid_uses.specs.declared.chain_places.ChainPlace.TheVariants.{Items, Value}
use Rattle.liquid_uses.specs.declared.place_pairs.Pair.{Pair}
use Rattle.liquid_uses.specs.inside.Placing.{gives}

-- no member is found by its place
abbrev pub are_unplaced_fields : Fields → Bool
are_unplaced_fields no_fields = true
are_unplaced_fields (field key u more) = not (is_place key) && are_unplaced_fields more

-- nothing is asked of items, neither of all nor of one
abbrev pub is_plain : Use → Bool
is_plain nothing = true
is_plain everything = true
is_plain (parts members turns) = not (has_every turns) && are_unplaced_fields members

abbrev pub takes : Pair → Use → Bool
takes r u = gives r.first u && (gives r.second u && (not r.plain || is_plain u))

abbrev pub sees : ChainPlace → Use → Bool
sees (Value r) v = takes r v
sees (Items r) v = takes r (items_wanted v)

abbrev pub CoversCall : ChainPlace → FilterCall → ChainPlace → Type 0
CoversCall s call next = (w : Use) → sees next w ≡ true → sees s (present (known_needs call w)) ≡
    true

-- the same of one of the filters that exist, with these arguments
abbrev pub KindPasses : ChainPlace → FilterKind → List Expression → ChainPlace → Type 0
KindPasses s kind arguments next =
    (w : Use) → sees next w ≡ true → sees s (present (kind_needs kind arguments w)) ≡ true

-- a literal text that names a property, and no length
abbrev pub IsPropertyName : Expression → Text → Type 0
IsPropertyName x name = (x ≡ literal (text name)) × (same_text name (codes "size") ≡ false)

-- the first argument names this property
abbrev pub NamesProperty : List Expression → Text → Type 0
NamesProperty arguments name = (f : Text → Use) → by_property (literal_first_argument arguments) f ≡
    f name

-- What the scopes of a state hold: names, a name with a borrowed value, or a loop at one of its
-- items.
--     item_of items i      item i of a loop's source, nil where there is none
--     frame_map frame local      what a loop binds at its item, where local are the outer names
--     scope_maps scopes enclosing   the scopes, the innermost first, over the outer ones
use Rattle.std.specs.Prelude.{◌≡◌, ◌<◌, ◌++◌, ℕ, ◌+◌, ◌-◌, List, [], ◌∷◌, length, take, map, get_or}
use Rattle.std.specs.Prelude.{Option, Some, None, String, codes}
use Rattle.std.specs.BTreeMap.{BTreeMap}
use Rattle.std.specs.declared.alloc.Global.{Global}
use Rattle.liquid_model.specs.Texts.{Text}
use Rattle.liquid_model.specs.Data.{Datum, nil}
use Rattle.liquid_model.specs.Find.{step_into}
use Rattle.liquid_model.specs.Maps.{Map, empty, insert}
use Rattle.liquid_model.specs.View.{view}
use Rattle.liquid_model.specs.declared.value.Value.{Value}
use Rattle.liquid_core.specs.Environment.{local_of}
use Rattle.liquid_core.specs.Held.{held}
use Rattle.liquid_core.specs.Places.{place_of, number_at}
use Rattle.liquid_core.specs.Loops.{loop_scope, forloop_object, tablerow_object}
use Rattle.liquid_core.specs.declared.frame.Items.{Items}
use Rattle.liquid_core.specs.declared.frame.Items.TheVariants.{Borrowed, Owned, Numbers}
use Rattle.liquid_core.specs.declared.frame.LoopKind.{LoopKind}
use Rattle.liquid_core.specs.declared.frame.LoopKind.TheVariants.{For, Render, TableRow}
use Rattle.liquid_core.specs.declared.frame.LoopFrame.{LoopFrame}
use Rattle.liquid_core.specs.declared.frame.Scope.{Scope}
use Rattle.liquid_core.specs.declared.frame.Scope.TheVariants as variants

abbrev pub item_of : Items → ℕ → Datum
item_of (Borrowed r) i = get_or (map view r.now) i nil
item_of (Owned v) i = get_or (map view v.items) i nil
item_of (Numbers a b) i = number_at a b i

-- what `forloop` is before a loop: that of the names outside it, else what was found elsewhere
abbrev pub parent_of : Option Datum → Datum → Datum
parent_of (Some d) elsewhere = d
parent_of None elsewhere = elsewhere

abbrev pub loop_name : LoopKind → Text
loop_name (For elsewhere) = codes "forloop"
loop_name Render = codes "forloop"
loop_name (TableRow columns) = codes "tablerow"

abbrev pub loop_object : LoopKind → ℕ → ℕ → Map Datum → Datum
loop_object (For elsewhere) k m local =
    forloop_object k m (parent_of (local (codes "forloop")) (view elsewhere))
loop_object Render k m local = forloop_object k m nil
loop_object (TableRow columns) k m local = tablerow_object k m columns.count

-- the item of a loop's k-th turn, counted from 0
abbrev pub frame_item_at : LoopFrame → ℕ → Datum
frame_item_at t k = item_of t.items (place_of t.reversed t.from t.count k)

abbrev pub frame_item : LoopFrame → Datum
frame_item t = frame_item_at t t.at

abbrev pub frame_object : LoopFrame → Map Datum → Datum
frame_object t local = loop_object t.kind t.at t.count local

-- a part of an object, by its name
abbrev pub object_part : Datum → Text → Option Datum
object_part d name = step_into d None name

-- what a loop binds in its k-th turn
abbrev pub frame_map_at : LoopFrame → ℕ → Map Datum → Map Datum
frame_map_at t k local =
    loop_scope (loop_name t.kind) (loop_object t.kind k t.count local) t.name.now
    (frame_item_at t k)

abbrev pub frame_map : LoopFrame → Map Datum → Map Datum
frame_map t local = frame_map_at t t.at local

abbrev pub scope_map : Scope → Map Datum → Map Datum
scope_map (variants.Names o) local = held o
scope_map (variants.Borrowed name v) local = insert empty name.now (view v.now)
scope_map (variants.LoopFrame t) local = frame_map t local

abbrev pub scope_maps : List Scope → List (Map Datum) → List (Map Datum)
scope_maps [] enclosing = enclosing
scope_maps (s ∷ ss) enclosing = scope_maps ss (scope_map s (local_of enclosing) ∷ enclosing)

-- ---- loops that begin, go on and end

-- a scope over these; none stands among them where there is no loop
abbrev pub with_names : BTreeMap (String Global) Value → List Scope → List Scope
with_names names [] = []
with_names names (s ∷ ss) = (s ∷ ss) ++ variants.Names names ∷ []

-- all but the innermost
abbrev pub without_innermost : List Scope → List Scope
without_innermost ss = take (length ss - 1) ss

-- the same loop at its next item
pub record IsNext (old new : LoopFrame) : Type 0 where
  pub name : new.name ≡ old.name
  pub items : new.items ≡ old.items
  pub from : new.from ≡ old.from
  pub count : new.count ≡ old.count
  pub reversed : new.reversed ≡ old.reversed
  pub kind : new.kind ≡ old.kind
  pub at : new.at ≡ old.at + 1

-- the innermost scope is this loop, over these
abbrev pub EndsIn : List Scope → List Scope → LoopFrame → Type 0
EndsIn scopes before t = scopes ≡ before ++ variants.LoopFrame t ∷ []

-- the innermost scope is a loop that has a next item
abbrev pub GoesOn : List Scope → Type 0
GoesOn scopes = (before : List Scope) ×
    ((t : LoopFrame) × (EndsIn scopes before t × (t.at + 1 < t.count)))

-- the innermost scope is a loop that went on to its next item
abbrev pub WentOn : List Scope → List Scope → Type 0
WentOn old new = (before : List Scope) (t : LoopFrame) → EndsIn old before t → (u : LoopFrame) ×
    (EndsIn new before u × IsNext t u)

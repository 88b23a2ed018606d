-- Data after a change of one value, and data in front of other data.
use Rattle.std.proofs.lemmas.Map.Text.{btree_map_updates_text}
use Rattle.std.specs.BTreeMap.{BTreeMap, UpdatesBy, get_by_text}
use Rattle.std.specs.Cmp.Lexicographic.{slice_cmp}
use Rattle.std.specs.Ordering.{nat_cmp}
use Rattle.std.specs.Prelude.{◌≡◌, Bool, true, false, cond, Some, None, option_map, String, string_bytes, bytes_eq}
use Rattle.std.specs.String.{string_cmp}
use Rattle.std.specs.declared.alloc.Global.{Global}
use mathlib.Core.Path.{refl, sym, ap, fun_ext, ◌∙◌}
use Rattle.liquid_model.proofs.Views.{view-lookup}
use Rattle.liquid_model.specs.Data.{Datum, Pairs, no_pairs, put}
use Rattle.liquid_model.specs.Find.{value_at}
use Rattle.liquid_model.specs.Maps.{Map, insert, merged, empty}
use Rattle.liquid_model.specs.Texts.{Text, ◌else◌}
use Rattle.liquid_model.specs.View.{view, pairs_view}
use Rattle.liquid_model.specs.declared.value.Value.{Value}
use Rattle.liquid_core.proofs.States.{map_of_put}
use Rattle.liquid_core.specs.DataChanges.{with_value}
use Rattle.liquid_core.specs.Held.{map_of, held}

-- a value stands at a name
pub value_put : (name : Text) (d : Datum) (before after : Pairs) → after ≡ put name d before → map_of after ≡ with_value (map_of before) name (Some d)
unfolding with_value insert
value_put name d before after h = ap map_of h ∙ map_of_put name d before

-- no value stands at a name
pub value_taken : (name : Text) (m n : BTreeMap (String Global) Value) → UpdatesBy string_cmp (λ k. slice_cmp nat_cmp name (string_bytes k)) m n None → held n ≡ with_value (held m) name None
unfolding with_value map_of
value_taken name m n h = fun_ext (λ q. sym (view-lookup q n.entries) ∙ ap (option_map view) (btree_map_updates_text name m n None h q) ∙ at q (bytes_eq name q))
  where
    at : (q : Text) (b : Bool) → option_map view (cond b None (get_by_text m q)) ≡ cond b None (value_at q (pairs_view m.entries))
    at q true = refl
    at q false = view-lookup q m.entries

-- a map without entries holds nothing
pub no_data : map_of no_pairs ≡ empty
unfolding map_of empty
no_data = fun_ext (λ name. refl)

-- one more value in front of the others
pub one_set : (ps : Pairs) (enclosing : Map Datum) (name : Text) (d : Datum) → with_value (merged (map_of ps) enclosing) name (Some d) ≡ merged (map_of (put name d ps)) enclosing
unfolding with_value merged insert
one_set ps enclosing name d = fun_ext (λ q. at q (bytes_eq name q) ∙ ap (λ m. m q else enclosing q) (sym (map_of_put name d ps)))
  where
    at : (q : Text) (b : Bool) → cond b (Some d) (map_of ps q else enclosing q) ≡ (cond b (Some d) (map_of ps q) else enclosing q)
    at q true = refl
    at q false = refl

-- nothing in front of other values
pub none_set : (enclosing : Map Datum) → merged (map_of no_pairs) enclosing ≡ enclosing
unfolding merged map_of
none_set enclosing = fun_ext (λ q. refl)

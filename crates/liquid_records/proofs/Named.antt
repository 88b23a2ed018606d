-- The names that came before, in the map that holds them.
use Rattle.std.specs.Prelude.{◌≡◌, ℕ, [], Option, Some, None, String, string_bytes}
use Rattle.std.specs.BTreeMap.{BTreeMap, UpdatesBy, get_by_text, is_at}
use Rattle.std.specs.Cmp.Lexicographic.{slice_cmp}
use Rattle.std.specs.Map.{lookup}
use Rattle.std.specs.Ordering.{nat_cmp}
use Rattle.std.specs.String.{string_cmp}
use Rattle.std.specs.declared.alloc.Global.{Global}
use Rattle.std.proofs.lemmas.Map.Text.{btree_map_updates_text}
use mathlib.Core.Path.{refl, sym, ap, subst, fun_ext, ◌∙◌}
use Rattle.liquid_model.specs.Maps.{empty, insert}
use Rattle.liquid_model.specs.Texts.{Text}
use Rattle.liquid_records.specs.Steps.{Fate, IsNamed, IsTried}
use Rattle.liquid_records.specs.inside.Puts.{map_names}

pub none_yet : (m : BTreeMap (String Global) ℕ) → m.entries ≡ [] → map_names m ≡ empty
unfolding empty
none_yet m e = λ i. (λ name. lookup (is_at (λ k. slice_cmp nat_cmp name (string_bytes k))) (e i))

-- a map that stays as it was has the same names
pub same_names : (m k : BTreeMap (String Global) ℕ) → k.entries ≡ m.entries → map_names k ≡ map_names m
same_names m k e = λ i. (λ name. lookup (is_at (λ k. slice_cmp nat_cmp name (string_bytes k))) (e i))

one_more : (m k : BTreeMap (String Global) ℕ) (name : Text) (n : ℕ) → UpdatesBy string_cmp (λ x. slice_cmp nat_cmp name (string_bytes x)) m k (Some n) → map_names k ≡ insert (map_names m) name n
unfolding insert
one_more m k name n u = fun_ext (λ q. btree_map_updates_text name m k (Some n) u q)

-- a page whose name is none of them was to be written, and its name is one of them now
pub tried_step : (n : ℕ) (name asked : Text) (key : String Global) (fate : Fate) (m k : BTreeMap (String Global) ℕ) → None ≡ get_by_text m asked → asked ≡ name → string_bytes key ≡ name
    → UpdatesBy string_cmp (λ x. slice_cmp nat_cmp (string_bytes key) (string_bytes x)) m k (Some n) → IsTried name fate → IsNamed n name (map_names m name) (map_names m) fate (map_names k)
tried_step n name asked key fate m k none same own u tried =
    let absent : map_names m name ≡ None = ap (get_by_text m) (sym same) ∙ sym none in
    let set : map_names k ≡ insert (map_names m) name n = one_more m k (string_bytes key) n u ∙ ap (λ x. insert (map_names m) x n) own in
    subst (λ o. IsNamed n name o (map_names m) fate (map_names k)) (sym absent) (tried, set)

-- The names of columns, and the map that holds them.
use Rattle.std.proofs.Common.{List, ◌∷◌, ◌++◌, map}
use Rattle.std.proofs.lemmas.List.{map-append}
use Rattle.std.specs.Prelude.{◌≡◌, ℕ, [], Some, String, string_bytes}
use Rattle.std.specs.BTreeMap.{BTreeMap, UpdatesBy, get_by_text, is_at}
use Rattle.std.specs.Cmp.Lexicographic.{slice_cmp}
use Rattle.std.specs.Map.{lookup}
use Rattle.std.specs.Ordering.{nat_cmp}
use Rattle.std.specs.String.{string_cmp}
use Rattle.std.specs.declared.alloc.Global.{Global}
use Rattle.std.proofs.lemmas.Map.Text.{btree_map_updates_text}
use mathlib.Core.Path.{ap, fun_ext, ◌∙◌}
use Rattle.liquid_model.specs.Maps.{Map, empty, insert}
use Rattle.liquid_model.specs.Texts.{Text}
use Rattle.liquid_data.specs.Heads.{NamedColumns, with_column}

abbrev pub places : BTreeMap (String Global) ℕ → Map ℕ
places m = λ name. get_by_text m name

abbrev pub named : List (String Global) → BTreeMap (String Global) ℕ → NamedColumns
named names m = record { names = map string_bytes names; places = places m }

pub none_yet : (m : BTreeMap (String Global) ℕ) → m.entries ≡ [] → places m ≡ empty
unfolding empty
none_yet m e = λ i. (λ name. lookup (is_at (λ k. slice_cmp nat_cmp name (string_bytes k))) (e i))

one_more : (m k : BTreeMap (String Global) ℕ) (name : Text) (n : ℕ) → UpdatesBy string_cmp (λ x. slice_cmp nat_cmp name (string_bytes x)) m k (Some n) → places k ≡ insert (places m) name n
unfolding insert
one_more m k name n u = fun_ext (λ q. btree_map_updates_text name m k (Some n) u q)

-- one more name, and its column
pub column_put : (names more : List (String Global)) (m k : BTreeMap (String Global) ℕ) (s t : String Global) (name : Text) (column : ℕ) → more ≡ names ++ s ∷ [] → string_bytes s ≡ name → string_bytes t ≡ name
    → UpdatesBy string_cmp (λ x. slice_cmp nat_cmp (string_bytes t) (string_bytes x)) m k (Some column) → named more k ≡ with_column (named names m) name column
column_put names more m k s t name column p q r u = λ i. record { names = first i; places = second i }
  where
    first : map string_bytes more ≡ map string_bytes names ++ name ∷ []
    first = ap (map string_bytes) p ∙ map-append string_bytes names (s ∷ []) ∙ ap (λ n. map string_bytes names ++ n ∷ []) q

    second : places k ≡ insert (places m) name column
    second = one_more m k (string_bytes t) column u ∙ ap (λ x. insert (places m) x column) r

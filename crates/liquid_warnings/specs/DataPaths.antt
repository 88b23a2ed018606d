-- Paths in data. A path begins with a name; then a key leads from a map to what it has there, and
-- `each` from a list to each of its items.
--     values_at_path path ps      the values that the path leads to in data of these pairs, in
--       order
--     lack_of path ps      where the way first comes to a map without the key of its next step
use Rattle.std.specs.Prelude.{ℕ, cond, codes, bytes_eq, string_bytes}
use Rattle.std.specs.Prelude.{List, [], ◌∷◌, ◌++◌, length, Option, Some, None}
use Rattle.liquid_model.specs.Data.{Datum, object, array, Items, no_items, item, Pairs}
use Rattle.liquid_model.specs.Find.{value_at}
use Rattle.liquid_model.specs.Texts.{Text}
use Rattle.liquid_warnings.specs.declared.data_path.DataPath.{DataPath}
use Rattle.liquid_warnings.specs.declared.data_path.Step.{Step}
use Rattle.liquid_warnings.specs.declared.data_path.Step.TheVariants.{Key, Each}

-- ---- what a path leads to

-- what is found of each item, one after another
abbrev pub of_each_item : (Datum → List Datum) → Items → List Datum
of_each_item f no_items = []
of_each_item f (item d ds) = f d ++ of_each_item f ds

abbrev pub of_found : (Datum → List Datum) → Option Datum → List Datum
of_found f (Some d) = f d
of_found f None = []

abbrev pub values_along : List Step → Datum → List Datum
values_along [] d = d ∷ []
values_along (Key k ∷ p) (object ps) = of_found (values_along p) (value_at (string_bytes k) ps)
values_along (Key k ∷ p) d = []
values_along (Each ∷ p) (array ds) = of_each_item (values_along p) ds
values_along (Each ∷ p) d = []

abbrev pub values_at_path : DataPath → Pairs → List Datum
values_at_path path ps = of_found (values_along path.steps.items)
    (value_at (string_bytes path.name) ps)

-- ---- where it comes to a map without the key

-- how many steps follow the key, and the map that hasn't it
pub record Lacking : Type 0 where
  pub left : ℕ
  pub among : Pairs

-- the first of the items of which something is found
abbrev pub or_later : Option Lacking → Option Lacking → Option Lacking
or_later (Some l) later = Some l
or_later None later = later

abbrev pub in_items : (Datum → Option Lacking) → Items → Option Lacking
in_items f no_items = None
in_items f (item d ds) = or_later (f d) (in_items f ds)

-- a map without a key; each map has a `size`
abbrev pub lack_at : Text → ℕ → Pairs → Option Lacking
lack_at k n ps =
    cond (bytes_eq k (codes "size")) None (Some (record { left = n; among = ps }))

abbrev pub in_member : (Datum → Option Lacking) → Option Lacking → Option Datum → Option Lacking
in_member f lack (Some d) = f d
in_member f lack None = lack

abbrev pub first_lack : List Step → Datum → Option Lacking
first_lack [] d = None
first_lack (Key k ∷ p) (object ps) =
    in_member (first_lack p) (lack_at (string_bytes k) (length p) ps)
    (value_at (string_bytes k) ps)
first_lack (Key k ∷ p) d = None
first_lack (Each ∷ p) (array ds) = in_items (first_lack p) ds
first_lack (Each ∷ p) d = None

abbrev pub lack_of : DataPath → Pairs → Option Lacking
lack_of path ps =
    in_member (first_lack path.steps.items)
    (lack_at (string_bytes path.name) (length path.steps.items) ps)
    (value_at (string_bytes path.name) ps)

-- What Liquid for Ruby does otherwise with data than this engine.
--     difference_of want path ps      with the values at a path in data of these pairs: a loop goes
--       over a map whose order shows, or `contains` may look into nil or for nil
--     shows_order d      a map of two members or more: a loop goes by its keys, in Ruby by the
--       order of the file
--     leads_to_nil steps d      the steps lead from a value to nil, past nil, or to a key that a
--       map lacks; a list leads there by any of its items
use Rattle.std.specs.Prelude.{Bool, true, false, cond, not, ◌||◌, nat_le, bytes_eq, codes}
use Rattle.std.specs.Prelude.{List, [], ◌∷◌, Option, Some, None, string_bytes}
use Rattle.std.specs.List.{list_any}
use Rattle.liquid_model.specs.Data.{Datum, nil, array, object, Items, no_items, item, Pairs}
use Rattle.liquid_model.specs.Digest.{pairs_len}
use Rattle.liquid_model.specs.Find.{value_at}
use Rattle.liquid_model.specs.Texts.{Text}
use Rattle.liquid_filters.specs.Keeping.{is_nil}
use Rattle.liquid_warnings.specs.DataPaths.{values_at_path}
use Rattle.liquid_warnings.specs.declared.data_path.DataPath.{DataPath}
use Rattle.liquid_warnings.specs.declared.data_path.Step.{Step}
use Rattle.liquid_warnings.specs.declared.data_path.Step.TheVariants.{Key, Each}
use Rattle.liquid_warnings.specs.declared.difference.Difference.{Difference}
use Rattle.liquid_warnings.specs.declared.difference.Difference.TheVariants.{KeyOrder}
use Rattle.liquid_warnings.specs.declared.difference.Difference.TheVariants.{NilSearched}
use Rattle.liquid_warnings.specs.declared.difference.Difference.TheVariants.{NilContained}
use Rattle.liquid_warnings.specs.declared.doubt.Want.{Want}
use Rattle.liquid_warnings.specs.declared.doubt.Want.TheVariants.{Items as Looped, Searched}
use Rattle.liquid_warnings.specs.declared.doubt.Want.TheVariants.{Contained}

abbrev pub shows_order : Datum → Bool
shows_order (object ps) = nat_le 2 (pairs_len ps)
shows_order _ = false

-- ---- nil

abbrev pub any_to_nil : (Datum → Bool) → Items → Bool
any_to_nil f no_items = false
any_to_nil f (item d ds) = f d || any_to_nil f ds

-- what a map has at a key leads there, or it lacks the key; each map has a `size`
abbrev pub member_to_nil : (Datum → Bool) → Bool → Option Datum → Bool
member_to_nil f is_lack (Some d) = f d
member_to_nil f is_lack None = is_lack

abbrev pub is_key_of_its_own : Text → Bool
is_key_of_its_own k = not (bytes_eq k (codes "size"))

abbrev pub leads_to_nil : List Step → Datum → Bool
leads_to_nil [] nil = true
leads_to_nil [] d = false
leads_to_nil (Key k ∷ p) (object ps) =
    member_to_nil (leads_to_nil p) (is_key_of_its_own (string_bytes k))
    (value_at (string_bytes k) ps)
leads_to_nil (Key k ∷ p) nil = true
leads_to_nil (Key k ∷ p) d = false
leads_to_nil (Each ∷ p) (array ds) = any_to_nil (leads_to_nil p) ds
leads_to_nil (Each ∷ p) d = false

-- a name that the data lacks is nil too
abbrev pub path_to_nil : DataPath → Pairs → Bool
path_to_nil path ps =
    member_to_nil (leads_to_nil path.steps.items) (is_key_of_its_own (string_bytes path.name))
    (value_at (string_bytes path.name) ps)

-- ---- the difference

abbrev pub difference_of : Want → DataPath → Pairs → Option Difference
difference_of (Looped span) path ps =
    cond (list_any shows_order (values_at_path path ps)) (Some KeyOrder) None
difference_of Searched path ps = cond (path_to_nil path ps) (Some NilSearched) None
difference_of Contained path ps =
    cond (list_any is_nil (values_at_path path ps)) (Some NilContained) None
difference_of _ path ps = None

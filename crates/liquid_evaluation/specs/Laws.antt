-- Laws of loop sources. Each stands on a function of src/laws.rt.
use Rattle.std.specs.Prelude.{◌≡◌, ◌<◌, ℕ, ℤ, Bool, List, length, get_or, slice_get, Option, Some}
use Rattle.std.specs.Prelude.{Ok}
use Rattle.liquid_model.specs.Data.{Datum, nil}
use Rattle.liquid_model.specs.Fallible.{◌>>=◌}
use Rattle.liquid_core.specs.Environment.{Environment}
use Rattle.liquid_core.specs.Places.{place_of, number_at}
use Rattle.liquid_evaluation.specs.Tree.{Source}
use Rattle.liquid_evaluation.specs.Evaluation.{source_items, count_to, numbers_from, skipped}
use Rattle.liquid_evaluation.specs.Evaluation.{selected_count, window_items}
use Rattle.liquid_evaluation.specs.Ranges.{Range, range_of, range_items, range_item}

-- a source's items are those of its value
abbrev pub SourceInTwoSteps : Type 0
SourceInTwoSteps = (source : Source) (e : Environment) → source_items source e ≡
    (range_of source e >>= range_items)

-- item by item they are the list, and nil stands past its end
abbrev pub ItemsByPlace : Type 0
ItemsByPlace = (r : Range) (ds : List Datum) → range_items r ≡ Ok ds → (i : ℕ) → range_item r i ≡
    get_or ds i nil

-- item by item, m items are these
pub record AreItemsByPlace (items : List Datum) (m : ℕ) (item : ℕ → Datum) : Type 0 where
  pub count : length items ≡ m
  pub each : (k : ℕ) → k < m → slice_get items k ≡ Some (item k)

-- item k of the m that limit, offset and `reversed` ask for is the source's item at its place, or
-- nil where there is none
abbrev pub WindowByPlace : Type 0
WindowByPlace = (ds : List Datum) (limit offset : Option ℤ) (reversed : Bool)
    → (let o = skipped (length ds) offset in let m = selected_count (length ds) o limit in
    AreItemsByPlace (window_items ds limit offset reversed) m
    (λ k. get_or ds (place_of reversed o m k) nil))

-- over the range `(a..b)` it is the number that stands at this place, counted from a
abbrev pub CountedWindow : Type 0
CountedWindow = (a b : ℤ) (limit offset : Option ℤ) (reversed : Bool)
    → (let o = skipped (count_to a b) offset in let m = selected_count (count_to a b) o limit in
    AreItemsByPlace (window_items (numbers_from a (count_to a b)) limit offset reversed) m
    (λ k. number_at a b (place_of reversed o m k)))

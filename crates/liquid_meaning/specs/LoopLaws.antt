-- Laws of a loop's items.
use Rattle.std.specs.Prelude.{◌≡◌, ℕ, ◌+◌, ◌%◌, ◌==◌, ◌<◌, ℤ, pos, ◌+ℤ◌, ◌≤ℤ◌, ◌<ℤ◌, true, false}
use Rattle.std.specs.Prelude.{List, [], length, reverse, get_or, slice_get, Option, Some}
use Rattle.liquid_model.specs.Data.{Datum, nil, number}
use Rattle.liquid_evaluation.specs.Evaluation.{count_to, numbers_from, skipped, selected_count}
use Rattle.liquid_evaluation.specs.Evaluation.{window_items}
use Rattle.liquid_core.specs.Loops.{is_last_column}

-- o of the items are left out and m are asked for: item k of the m is source item o + k, or nil
-- where there is none; `reversed` turns these m round
pub record WindowOf (ds : List Datum) (limit offset : Option ℤ) (o m : ℕ) : Type 0 where
  pub count : length (window_items ds limit offset false) ≡ m
  pub item : (k : ℕ) → k < m → slice_get (window_items ds limit offset false) k ≡
      Some (get_or ds (o + k) nil)
  pub turned : window_items ds limit offset true ≡ reverse (window_items ds limit offset false)

abbrev pub WindowLaw : Type 0
WindowLaw = (ds : List Datum) (limit offset : Option ℤ)
    → (let o = skipped (length ds) offset in WindowOf ds limit offset o
    (selected_count (length ds) o limit))

-- the numbers of `(a..b)`: both ends and all between, in their order; none where a > b
pub record NumbersBetween (a b : ℤ) (ds : List Datum) : Type 0 where
  pub none : b <ℤ a → ds ≡ []
  pub count : a ≤ℤ b → a +ℤ pos (length ds) ≡ b +ℤ pos 1
  pub item : (k : ℕ) → k < length ds → slice_get ds k ≡ Some (number (a +ℤ pos k))

abbrev pub RangeLaw : Type 0
RangeLaw = (a b : ℤ) → NumbersBetween a b (numbers_from a (count_to a b))

-- the rows of a `tablerow` of m items: the first cell begins a row, a row ends just where the next
-- cell begins one, and the last cell ends its row
pub record RowsFit (m columns : ℕ) : Type 0 where
  pub first : 0 % columns ≡ 0
  pub next : (k : ℕ) → k + 1 < m → is_last_column k m columns ≡ ((k + 1) % columns == 0)
  pub last : (k : ℕ) → k + 1 ≡ m → is_last_column k m columns ≡ true

abbrev pub RowLaw : Type 0
RowLaw = (m columns : ℕ) → 0 < columns → RowsFit m columns

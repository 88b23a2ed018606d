-- What the source of a loop is before its items are taken.
--     range_of source e      what a source is in an environment
--     range_items r      its items;   range_count r      how many;   range_item r i      item i of
--                        them, nil where there is none
use Rattle.std.specs.Prelude.{ℕ, nat_le, ℤ, cond, List, length, get_or, Result, Ok, Err}
use Rattle.liquid_model.specs.Data.{Datum, nil, array, object}
use Rattle.liquid_model.specs.Lists.{list_of, pair_lists}
use Rattle.liquid_model.specs.Fallible.{◌>>=◌}
use Rattle.liquid_model.specs.declared.error.ErrorKind.{ErrorKind}
use Rattle.liquid_model.specs.declared.error.ErrorKind.TheVariants.{RangeTooLong}
use Rattle.liquid_core.specs.Environment.{Environment}
use Rattle.liquid_core.specs.Expressions.{required, needed_whole}
use Rattle.liquid_core.specs.Places.{number_at}
use Rattle.liquid_evaluation.specs.Tree.{Source, each_of, counted}
use Rattle.liquid_evaluation.specs.Evaluation.{value_items, most_items, not_too_long, count_to}
use Rattle.liquid_evaluation.specs.Evaluation.{numbers_from}

-- a value whose items are meant, or the ends of a range
pub data Range : Type 0 where
  items_in : Datum → Range
  between : ℤ → ℤ → Range

-- the ends of a range are evaluated and converted in turn
unfoldable pub range_of : Source → Environment → Result Range ErrorKind
range_of (each_of x) e = do
  d ← required x e
  Ok (items_in d)
range_of (counted first last) e = do
  a ← needed_whole first e
  b ← needed_whole last e
  Ok (between a b)

-- the items of a value, where it has any, or the numbers between the ends; too many are refused
abbrev pub range_items : Range → Result (List Datum) ErrorKind
range_items (items_in d) = do
  ds ← value_items d
  not_too_long (length ds) ds
range_items (between a b) = not_too_long (count_to a b) (numbers_from a (count_to a b))

abbrev pub range_count : Range → Result ℕ ErrorKind
range_count r = do
  ds ← range_items r
  Ok (length ds)

abbrev pub value_count : Datum → Result ℕ ErrorKind
value_count d = do
  ds ← value_items d
  Ok (length ds)

-- a number of items, where it isn't too great
abbrev pub checked_count : ℕ → Result ℕ ErrorKind
checked_count n = cond (nat_le n most_items) (Ok n) (Err RangeTooLong)

abbrev pub value_item : Datum → ℕ → Datum
value_item (array ds) i = get_or (list_of ds) i nil
value_item (object ps) i = get_or (pair_lists ps) i nil
value_item _ i = nil

abbrev pub range_item : Range → ℕ → Datum
range_item (items_in d) i = value_item d i
range_item (between a b) i = number_at a b i

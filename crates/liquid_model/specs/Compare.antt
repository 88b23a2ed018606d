-- The order of conditions.
use Rattle.std.specs.Prelude.{Option, Some, None, if◌then◌else◌}
use Rattle.std.specs.declared.cmp.Ordering.{Ordering}
use Rattle.std.specs.declared.cmp.Ordering.TheVariants.{Less, Equal, Greater}
use Rattle.std.specs.Ordering.{nat_cmp, int_cmp, bool_cmp}
use Rattle.std.specs.Cmp.Lexicographic.{slice_cmp}
use Rattle.liquid_model.specs.Data.{Datum, truth, number, text, array, object, Items, no_items}
use Rattle.liquid_model.specs.Data.{item, Pairs, no_pairs, pair}
use Rattle.liquid_model.specs.Order.{same}

-- what decides between two places that are not equal: the keys where they differ
abbrev pub by_key : Ordering → Option Ordering → Option Ordering
by_key Less at_values = Some Less
by_key Equal at_values = at_values
by_key Greater at_values = Some Greater

-- an answer within truth values, numbers, texts, lists and maps alone; of lists and maps the first
-- unequal place decides
abbrev mutual
  pub compare : Datum → Datum → Option Ordering
  compare (truth a) (truth b) = Some (bool_cmp a b)
  compare (number x) (number y) = Some (int_cmp x y)
  compare (text s) (text t) = Some (slice_cmp nat_cmp s t)
  compare (array ds) (array es) = items_compare ds es
  compare (object ms) (object ns) = pairs_compare ms ns
  compare _ _ = None

  pub items_compare : Items → Items → Option Ordering
  items_compare no_items no_items = Some Equal
  items_compare no_items (item e es) = Some Less
  items_compare (item d ds) no_items = Some Greater
  items_compare (item d ds) (item e es) = if same d e then items_compare ds es else compare d e

  pub pairs_compare : Pairs → Pairs → Option Ordering
  pairs_compare no_pairs no_pairs = Some Equal
  pairs_compare no_pairs (pair l e ns) = Some Less
  pairs_compare (pair k d ms) no_pairs = Some Greater
  pairs_compare (pair k d ms) (pair l e ns) =
      by_key (slice_cmp nat_cmp k l) (if same d e then pairs_compare ms ns else compare d e)

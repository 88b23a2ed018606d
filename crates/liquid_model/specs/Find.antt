-- Finding along a path.
use Rattle.std.specs.Prelude.{codes, ℕ, zero, suc, ◌-◌, min, ℤ, pos, negsuc, List, [], ◌∷◌, Option}
use Rattle.std.specs.Prelude.{Some, None, if◌then◌else◌, length, nat_le, option_and_then, bytes_eq}
use Rattle.liquid_model.specs.Data.{Datum, nil, truth, number, text, array, object, Items, no_items}
use Rattle.liquid_model.specs.Data.{item, Pairs, no_pairs, pair, text_of, scalar}
use Rattle.liquid_model.specs.Digest.{items_len, pairs_len}
use Rattle.liquid_model.specs.Whole.{whole}

-- a length as a number
abbrev pub counted : ℕ → Datum
counted n = number (pos (min n 9223372036854775807))

-- the item at an index
abbrev pub item_at : ℕ → Items → Option Datum
item_at n no_items = None
item_at zero (item d ds) = Some d
item_at (suc n) (item d ds) = item_at n ds

-- a negative index counts from the end
abbrev pub item_back : ℕ → Items → Option Datum
item_back n ds = if nat_le n (items_len ds) then item_at (items_len ds - n) ds else None

abbrev pub item_from : ℤ → Items → Option Datum
item_from (pos n) ds = item_at n ds
item_from (negsuc n) ds = item_back (suc n) ds

-- the value at a key
abbrev pub value_at : List ℕ → Pairs → Option Datum
value_at k no_pairs = None
value_at k (pair l d ms) = if bytes_eq k l then Some d else value_at k ms

abbrev pub item_named : List ℕ → Items → Option Datum
item_named name ds =
    if bytes_eq name (codes "first") then item_at 0 ds
    else (if bytes_eq name (codes "last") then item_back 1 ds
    else (if bytes_eq name (codes "size") then Some (counted (items_len ds)) else None))

abbrev pub item_step : Option ℤ → List ℕ → Items → Option Datum
item_step (Some i) name ds = item_from i ds
item_step None name ds = item_named name ds

abbrev pub or_size : Option Datum → List ℕ → ℕ → Option Datum
or_size (Some d) name n = Some d
or_size None name n = if bytes_eq name (codes "size") then Some (counted n) else None

-- one step from a scalar whose text has n bytes: `size` alone is found
abbrev pub scalar_step : Datum → ℕ → Option Datum
scalar_step s n = if scalar s then or_size None (text_of s) n else None

-- one step from a value, by a scalar's text, and its whole number where it has one
abbrev pub step_into : Datum → Option ℤ → List ℕ → Option Datum
step_into nil i name = None
step_into (truth b) i name = or_size None name (length (text_of (truth b)))
step_into (number z) i name = or_size None name (length (text_of (number z)))
step_into (text s) i name = or_size None name (length s)
step_into (array ds) i name = item_step i name ds
step_into (object ms) i name = or_size (value_at name ms) name (pairs_len ms)

abbrev pub step : Datum → Datum → Option Datum
step d s = if scalar s then step_into d (whole s) (text_of s) else None

abbrev pub find : Datum → List Datum → Option Datum
find d [] = Some d
find d (s ∷ ss) = option_and_then (λ e. find e ss) (step d s)

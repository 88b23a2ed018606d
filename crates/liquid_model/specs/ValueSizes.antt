-- How many bytes a value takes of a limit.
use Rattle.std.specs.Prelude.{ℕ, ◌+◌, ◌-◌, ◌^◌, nat_lt, if◌then◌else◌, length}
use Rattle.liquid_model.specs.Data.{Datum, text, array, object, Items, no_items, item, Pairs}
use Rattle.liquid_model.specs.Data.{no_pairs, pair}

-- A text takes its bytes. A list takes what its items take, and 32 for each; a map what its keys
-- and values take, and 32 for each pair. Nil, a truth value and a number take nothing.
abbrev mutual
  pub value_size : Datum → ℕ
  value_size (text s) = length s
  value_size (array ds) = items_size ds
  value_size (object ms) = pairs_size ms
  value_size _ = 0

  pub items_size : Items → ℕ
  items_size no_items = 0
  items_size (item d ds) = (32 + value_size d) + items_size ds

  pub pairs_size : Pairs → ℕ
  pairs_size no_pairs = 0
  pairs_size (pair k d ms) = ((32 + length k) + value_size d) + pairs_size ms

-- the number, up to the greatest value of a `usize`
abbrev pub counted_size : ℕ → ℕ
counted_size n = if nat_lt n (2 ^ 64 - 1) then n else (2 ^ 64 - 1)

-- Where the items of a loop stand in its source.
--     place_of reversed o m k      the place of item k of m, from place o on
--     number_at a b i      number i of `(a..b)`, nil where there is none
use Rattle.std.specs.Prelude.{ℕ, ◌+◌, ◌-◌, ℤ, pos, ◌+ℤ◌, int_le, Bool, cond}
use Rattle.liquid_model.specs.Data.{Datum, nil, number}

-- counted from the end where reversed
abbrev pub place_of : Bool → ℕ → ℕ → ℕ → ℕ
place_of reversed o m k = o + cond reversed (m - k - 1) k

-- the numbers from a to b, by place
abbrev pub number_at : ℤ → ℤ → ℕ → Datum
number_at a b i = cond (int_le (a +ℤ pos i) b) (number (a +ℤ pos i)) nil

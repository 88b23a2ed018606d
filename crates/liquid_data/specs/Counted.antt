-- The number of a record.
use Rattle.std.specs.Prelude.{ℕ, ◌+◌, min, Bool, cond}

-- the number of the record that was read last: one more where one was found, and at most what 64
-- bits hold
abbrev pub record_number_after : Bool → ℕ → ℕ
record_number_after found number = cond found (min (number + 1) 18446744073709551615) number

-- How far a merge is, and how long it still takes.
use Rattle.std.specs.Prelude.{◌≡◌, ℕ, ◌*◌, ◌-◌, ◌/◌, min, max, Option, Some, None, IfSome}
use Rattle.bikleinu.specs.declared.extent.Extent.{Extent}
use Rattle.bikleinu.specs.declared.extent.Extent.TheVariants.{Unknown, Records, Bytes}
use Rattle.bikleinu.specs.declared.extent.Reached.{Reached}
use Rattle.bikleinu.specs.declared.extent.Unit.TheVariants as unit

-- so many hundredths of it are done, rounded down
abbrev pub percent_done : ℕ → ℕ → ℕ
percent_done done whole = min (done * 100) 18446744073709551615 / max whole 1

-- the seconds that the rest takes, if each part of it takes as long as those that are done
abbrev pub seconds_left : ℕ → ℕ → ℕ → ℕ
seconds_left passed done whole = min (passed * (whole - done)) 18446744073709551615 / max done 1

-- after so many records in so many seconds: nothing where the whole isn't known; else its part, of
-- the records or of the file, and how long the rest takes
abbrev pub IsProgress : Extent → ℕ → ℕ → Option Reached → Type 0
IsProgress Unknown records seconds reached = reached ≡ None
IsProgress (Records count) records seconds reached = reached ≡ Some (record {
  done = records;
  whole = count;
  unit = unit.Records;
  seconds_left = seconds_left seconds records count;
})
IsProgress (Bytes file size) records seconds reached = IfSome reached (λ r. (r.whole ≡ size)
    × (r.unit ≡ unit.File) × (r.seconds_left ≡ seconds_left seconds r.done size))

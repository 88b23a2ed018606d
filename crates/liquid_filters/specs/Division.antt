-- Division of whole numbers with a remainder.
use Rattle.std.specs.Prelude.{◌≡◌, ◌⊎◌, ℤ, pos, negsuc, ◌+ℤ◌, ◌*ℤ◌, ◌<◌, Bool, true, false}
use Rattle.std.specs.Prelude.{unsigned_abs}

abbrev pub is_negative : ℤ → Bool
is_negative (pos n) = false
is_negative (negsuc n) = true

-- q is the quotient of a by b, cut off towards 0, and r the remainder that it leaves: nearer to 0
-- than b, and 0 or of the sign of a
pub record IsDivision (a b q r : ℤ) : Type 0 where
  pub sum : a ≡ q *ℤ b +ℤ r
  pub near : unsigned_abs r < unsigned_abs b
  pub sign : (r ≡ pos 0) ⊎ (is_negative r ≡ is_negative a)

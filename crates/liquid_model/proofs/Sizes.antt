-- No number's text and no truth value's is `size`.
use Rattle.std.proofs.Common.{◌≡◌, ℕ, zero, suc, ℤ, pos, negsuc, List, [], ◌∷◌, Bool, true, false, cond, codes, bytes_eq, nat_eq, None, ◌<◌, ◌%◌, ◌/◌, ◌==◌, refl, arith}
use Rattle.std.proofs.lemmas.Bool.Decides.{nat_tests}
use Rattle.std.specs.Fmt.{decimal}
use Rattle.std.specs.Fmt.{digits, digits_onto, digit_glyph}
use Rattle.liquid_model.specs.Data.{truth, number}
use Rattle.liquid_model.specs.Find.{scalar_step}

glyph_small : (n : ℕ) → digit_glyph false (n % 10) < 58
glyph_small n = grind (arith, nat_tests)

other_first : (a : ℕ) (acc : List ℕ) → a < 58 → bytes_eq (a ∷ acc) (codes "size") ≡ false
other_first a acc h = let e : nat_eq a 115 ≡ false = grind (arith, nat_tests) in rw e refl

by_last : (b : Bool) (xs ys : List ℕ) → bytes_eq xs (codes "size") ≡ false → bytes_eq ys (codes "size") ≡ false → bytes_eq (cond b xs ys) (codes "size") ≡ false
by_last true xs ys h k = h
by_last false xs ys h k = k

onto_not_size : (k n : ℕ) (acc : List ℕ) → bytes_eq acc (codes "size") ≡ false → bytes_eq (digits_onto k 10 false n acc) (codes "size") ≡ false
onto_not_size zero n acc h = h
onto_not_size (suc k) n acc h =
    let first : bytes_eq (digit_glyph false (n % 10) ∷ acc) (codes "size") ≡ false = other_first (digit_glyph false (n % 10)) acc (glyph_small n) in
    by_last (n / 10 == 0) _ _ first (onto_not_size k (n / 10) (digit_glyph false (n % 10) ∷ acc) first)

decimal_not_size : (n : ℕ) → bytes_eq (decimal n) (codes "size") ≡ false
unfolding digits
decimal_not_size n = onto_not_size 64 n [] refl

pub number_not_size : (z : ℤ) (n : ℕ) → None ≡ scalar_step (number z) n
number_not_size (pos m) n = rw (decimal_not_size m) refl
number_not_size (negsuc m) n = refl

pub truth_not_size : (b : Bool) (n : ℕ) → None ≡ scalar_step (truth b) n
truth_not_size true n = refl
truth_not_size false n = refl

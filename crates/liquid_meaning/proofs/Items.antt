-- The items of loops.
use Rattle.std.specs.Prelude.{◌≡◌, suc, ◌<◌, ℤ, pos, ◌+ℤ◌, ◌-ℤ◌, ◌≤ℤ◌, ◌<ℤ◌, nat_abs, int_le, Bool, true, false, cond}
use mathlib.Core.Path.{refl, ap, subst, ◌∙◌}
use native.Mathlib.Omega.{arith}
use Rattle.std.proofs.lemmas.Int.{ints}
use Rattle.liquid_evaluation.specs.Evaluation.{count_to, numbers_from}
use Rattle.liquid_evaluation.proofs.Ranges.{numbers_count, numbers_place}
use Rattle.liquid_evaluation.proofs.Windows.{items_count, items_place}
use Rattle.liquid_meaning.specs.LoopLaws.{WindowLaw, RangeLaw}

pub window_law : WindowLaw
window_law ds limit offset = record {
  count = items_count ds _ _;
  item = items_place ds _ _;
  turned = refl;
}

count_none : (a b : ℤ) → b <ℤ a → count_to a b ≡ 0
count_none a b h = at (int_le a b) refl
  where
    at : (t : Bool) → int_le a b ≡ t → cond t (suc (nat_abs (b -ℤ a))) 0 ≡ 0
    at true e = absurd (omega (arith, ints))
    at false e = refl

count_some : (a b : ℤ) → a ≤ℤ b → a +ℤ pos (count_to a b) ≡ b +ℤ pos 1
count_some a b h = at (int_le a b) refl
  where
    at : (t : Bool) → int_le a b ≡ t → a +ℤ pos (cond t (suc (nat_abs (b -ℤ a))) 0) ≡ b +ℤ pos 1
    at true e = omega (arith, ints)
    at false e = absurd (omega (arith, ints))

pub range_law : RangeLaw
range_law a b = record {
  none = λ h. ap (numbers_from a) (count_none a b h);
  count = λ h. ap (λ n. a +ℤ pos n) (numbers_count a (count_to a b)) ∙ count_some a b h;
  item = λ k h. numbers_place a (count_to a b) k (subst (λ n. k < n) (numbers_count a (count_to a b)) h);
}

-- The singular or the plural.
use Rattle.std.proofs.Common.{◌≡◌, ◌⊎◌, inl, inr, refl, sym, ap, ◌∙◌, Bool, true, false, ℤ, pos, Option, Some, None, Ok, Err, arith, if◌then◌else◌}
use Rattle.std.proofs.lemmas.Int.{ints}
use Rattle.std.specs.Ordering.{int_eq}
use Rattle.liquid_model.specs.Answer.{IsTheOne}
use Rattle.liquid_model.specs.Data.{Datum}
use Rattle.liquid_model.specs.Whole.{whole}
use Rattle.liquid_model.specs.declared.error.ErrorKind.TheVariants.{InvalidInput}
use Rattle.liquid_model.specs.Arguments.{Answer}
use Rattle.liquid_model.proofs.Ones.{one}
use Rattle.liquid_filters.specs.JekyllLaws.{PluralizeIsOne}
use Rattle.liquid_filters.specs.Pluralize.{numbered}

abbrev Numbered : Option ℤ → Datum → Datum → Answer → Type 0
Numbered o singular plural a =
    ((o ≡ Some (pos 1)) × (a ≡ Ok singular)) ⊎ (((z : ℤ) × (o ≡ Some z) × (z ≡ pos 1 → ⊥) × (a ≡ Ok plural)) ⊎ ((o ≡ None) × (a ≡ Err InvalidInput)))

no_number : (z : ℤ) → None ≡ Some z → ⊥
no_number z e = cc

same_number : {x y : ℤ} → Some x ≡ Some y → x ≡ y
same_number e = cc

numbered_by : (z : ℤ) (singular plural : Datum) (t : Bool) → int_eq z (pos 1) ≡ t → IsTheOne (Numbered (Some z) singular plural) (Ok (if t then singular else plural))
numbered_by z singular plural true e = one (Numbered (Some z) singular plural) (Ok singular) (inl (ap Some is, refl)) unique
  where
    is : z ≡ pos 1
    is = grind (arith, ints)

    unique : (a : Answer) → Numbered (Some z) singular plural a → a ≡ Ok singular
    unique a (inl x) = x.1
    unique a (inr (inl (y, same, other, x))) = absurd (other (sym (same_number same) ∙ is))
    unique a (inr (inr x)) = absurd (no_number z (sym x.0))
numbered_by z singular plural false e = one (Numbered (Some z) singular plural) (Ok plural) (inr (inl (z, refl, other, refl))) unique
  where
    other : z ≡ pos 1 → ⊥
    other is = grind (arith, ints)

    unique : (a : Answer) → Numbered (Some z) singular plural a → a ≡ Ok plural
    unique a (inl x) = absurd (other (same_number x.0))
    unique a (inr (inl (y, same, apart, x))) = x
    unique a (inr (inr x)) = absurd (no_number z (sym x.0))

numbered_one : (o : Option ℤ) (singular plural : Datum) → IsTheOne (Numbered o singular plural) (numbered o singular plural)
numbered_one (Some z) singular plural = numbered_by z singular plural (int_eq z (pos 1)) refl
numbered_one None singular plural = one (Numbered None singular plural) (Err InvalidInput) (inr (inr (refl, refl))) unique
  where
    unique : (a : Answer) → Numbered None singular plural a → a ≡ Err InvalidInput
    unique a (inl x) = absurd (no_number (pos 1) x.0)
    unique a (inr (inl (z, same, apart, x))) = absurd (no_number z same)
    unique a (inr (inr x)) = x.1

pub pluralize_is_one : PluralizeIsOne
pluralize_is_one d singular plural args = numbered_one (whole d) singular plural

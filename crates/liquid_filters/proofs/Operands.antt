-- What the operands of a filter are refused as, and what a filter answers for its only argument.
use Rattle.std.proofs.Common.{◌≡◌, ◌<◌, ℤ, Bool, true, false, ◌&&◌, Option, Some, None, Result, Err, List, [], ◌∷◌, length, map, get_or, if◌then◌else◌, refl, sym, ap, subst, ◌∙◌, arith}
use Rattle.std.specs.Prelude.{IsTrue, nat_eq, slice_get, MatchBool, ⊤}
use Rattle.std.specs.Option.{option_zip}
use Rattle.liquid_model.specs.Answer.{Faulted}
use Rattle.liquid_model.specs.Data.{Datum}
use Rattle.liquid_model.specs.ErrorKinds.{IsKindOrMemory, is_memory, is_refusal}
use Rattle.liquid_model.specs.View.{view}
use Rattle.liquid_model.specs.declared.error.ErrorKind.{ErrorKind}
use Rattle.liquid_model.specs.declared.error.ErrorKind.TheVariants.{InvalidInput, InvalidArgument, DivideByZero, Float}
use Rattle.liquid_model.specs.declared.value.Value.{Value}
use Rattle.liquid_model.specs.Arguments.{Answer}
use Rattle.liquid_filters.specs.Numbers.{operands_of, both_or, is_zero, is_numeric, unlike, of_one}
use Rattle.liquid_filters.specs.Rounding.{round, rounded, rounded_by}
use Rattle.liquid_filters.specs.declared.stdlib.filters.math.decimal.Rounding.TheVariants.{Nearest}

faulted_at : {Y : Type 0} (b : Bool) (wanted : Result Y ErrorKind) (kind reported : ErrorKind) → MatchBool b ⊤ (kind ≡ reported) → wanted ≡ Err kind → is_refusal kind ≡ false
    → MatchBool b ⊤ ((wanted ≡ Err reported) × (is_refusal reported ≡ false))
faulted_at true wanted kind reported h e r = tt
faulted_at false wanted kind reported h e r = (e ∙ ap Err h, ap is_refusal (sym h) ∙ r)

pub faulted : {Y : Type 0} (wanted : Result Y ErrorKind) (kind reported : ErrorKind) → IsKindOrMemory kind reported → wanted ≡ Err kind → is_refusal kind ≡ false → Faulted reported wanted
faulted wanted kind reported h e r = faulted_at (is_memory reported) wanted kind reported h e r

-- ---- the operands, by the step that refuses them
pub no_input : (divides s t : Bool) (k : ErrorKind) (a b : Option ℤ) → s ≡ false → operands_of divides s t k a b ≡ Err InvalidInput
no_input divides s t k a b h = rw h refl

pub no_operand : (divides s t : Bool) (k : ErrorKind) (a b : Option ℤ) → s ≡ true → t ≡ false → operands_of divides s t k a b ≡ Err InvalidArgument
no_operand divides s t k a b h i = rw (h, i) refl

pub by_zero : (divides s t : Bool) (k : ErrorKind) (a b : Option ℤ) → s ≡ true → t ≡ true → divides && is_zero b ≡ true → operands_of divides s t k a b ≡ Err DivideByZero
by_zero divides s t k a b h i z = rw (h, i, z) refl

none_both : (k : ErrorKind) (a b : Option ℤ) → option_zip a b ≡ None → both_or k a b ≡ Err k
none_both k None b e = refl
none_both k (Some x) None e = refl
none_both k (Some x) (Some y) e = cc

pub not_both : (divides s t : Bool) (k : ErrorKind) (a b : Option ℤ) → s ≡ true → t ≡ true → divides && is_zero b ≡ false → option_zip a b ≡ None → operands_of divides s t k a b ≡ Err k
not_both divides s t k a b h i z e = rw (h, i, z) (none_both k a b e)

unlike_at : (b : Bool) → is_refusal (if b then Float else InvalidArgument) ≡ false
unlike_at true = refl
unlike_at false = refl

pub unlike_plain : (d e : Datum) → is_refusal (unlike d e) ≡ false
unlike_plain d e = unlike_at (is_numeric d && is_numeric e)

-- ---- the only argument
pub one_in : (xs : List Value) → IsTrue (nat_eq (length xs) 1) → 0 < length xs
one_in [] h = let u : ⊥ = cc in absurd u
one_in (x ∷ xs) h = omega arith

pub of_given : (P : Answer → Type 0) (f : Datum → Datum → Answer) (d : Datum) (xs : List Value) (x : Value) → IsTrue (nat_eq (length xs) 1) → x ≡ get_or xs 0 x → P (f d (view x)) → P (of_one f d (map view xs))
of_given P f d [] x h e p = let u : ⊥ = cc in absurd u
of_given P f d (y ∷ xs) x h e p = subst (λ (z : Value). P (f d (view z))) e p

-- ---- the argument of round, where there is one
pub places_given : (P : Answer → Type 0) (d : Datum) (xs : List Value) (x : Value) → Some x ≡ slice_get xs 0 → P (rounded_by d (view x)) → P (round d (map view xs))
places_given P d [] x e p = let u : ⊥ = cc in absurd u
places_given P d (y ∷ xs) x e p = let i : x ≡ y = cc in subst (λ (z : Value). P (rounded_by d (view z))) i p

pub no_places : (P : Answer → Type 0) (d : Datum) (xs : List Value) → None ≡ slice_get xs 0 → P (rounded Nearest d) → P (round d (map view xs))
no_places P d [] e p = p
no_places P d (y ∷ xs) e p = let u : ⊥ = cc in absurd u

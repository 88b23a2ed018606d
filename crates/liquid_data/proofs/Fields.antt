-- The fields of a row from one of them on.
use Rattle.std.specs.Prelude.{◌≡◌, ℕ, zero, suc, List, [], ◌∷◌, drop, Option, Some, None}
use Rattle.csv.specs.Records.{field_at}
use mathlib.Core.Path.{refl, sym, ap}
use Rattle.liquid_model.specs.Texts.{Text}

abbrev unwrapped : Text → Option Text → Text
unwrapped d None = d
unwrapped d (Some x) = x

-- a field that is there, and those after it
pub one_field : (fs : List Text) (n : ℕ) (c : Text) → Some c ≡ field_at fs n → drop n fs ≡ c ∷ drop (suc n) fs
unfolding field_at
one_field [] n c e = cc e
one_field (f ∷ fs) zero c e = ap (λ x. x ∷ fs) (sym (ap (unwrapped c) e))
one_field (f ∷ fs) (suc n) c e = one_field fs n c e

-- after the last field
pub no_field : (fs : List Text) (n : ℕ) → None ≡ field_at fs n → drop n fs ≡ []
unfolding field_at
no_field [] zero e = refl
no_field [] (suc n) e = refl
no_field (f ∷ fs) zero e = cc e
no_field (f ∷ fs) (suc n) e = no_field fs n e

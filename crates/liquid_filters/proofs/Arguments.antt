-- The two arguments of a filter.
use Rattle.std.proofs.Common.{◌≡◌, ◌<◌, List, [], ◌∷◌, length, map, get_or, subst, arith}
use Rattle.std.specs.Prelude.{IsTrue, nat_eq}
use Rattle.liquid_model.specs.Data.{Datum}
use Rattle.liquid_model.specs.View.{view}
use Rattle.liquid_model.specs.declared.value.Value.{Value}
use Rattle.liquid_model.specs.Arguments.{Answer}
use Rattle.liquid_filters.specs.Dates.{date_in_tz_answer}

pub two_in : (xs : List Value) → IsTrue (nat_eq (length xs) 2) → 1 < length xs
two_in [] h = let u : ⊥ = cc in absurd u
two_in (v ∷ []) h = let u : ⊥ = cc in absurd u
two_in (v ∷ w ∷ xs) h = omega arith

pub of_two : (P : Answer → Type 0) (d : Datum) (xs : List Value) (x y : Value) → IsTrue (nat_eq (length xs) 2) → x ≡ get_or xs 0 x → y ≡ get_or xs 1 y
    → P (date_in_tz_answer d (view x ∷ view y ∷ [])) → P (date_in_tz_answer d (map view xs))
of_two P d [] x y h e f p = let u : ⊥ = cc in absurd u
of_two P d (v ∷ []) x y h e f p = let u : ⊥ = cc in absurd u
of_two P d (v ∷ w ∷ xs) x y h e f p =
    subst (λ (z : Value). P (date_in_tz_answer d (view v ∷ view z ∷ []))) f (subst (λ (z : Value). P (date_in_tz_answer d (view z ∷ view y ∷ []))) e p)

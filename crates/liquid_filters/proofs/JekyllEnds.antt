-- A list with an item more or less at an end, and the only argument of a filter.
use Rattle.std.proofs.Common.{◌≡◌, ℕ, suc, ◌-◌, ◌<◌, List, [], ◌∷◌, ◌++◌, length, take, map, get_or, ap, sym, subst, ◌∙◌, arith, length-append}
use Rattle.std.specs.Prelude.{IsTrue, nat_eq}
use Rattle.std.proofs.Math.Seq.{take-append_seam}
use Rattle.std.proofs.lemmas.List.{map-append}
use Rattle.liquid_model.specs.Data.{Datum}
use Rattle.liquid_model.specs.Lists.{list_of}
use Rattle.liquid_model.specs.View.{view, items_view}
use Rattle.liquid_model.specs.declared.value.Value.{Value}
use Rattle.liquid_model.proofs.Views.{list_of_view}
use Rattle.liquid_model.specs.Arguments.{Answer}
use Rattle.liquid_filters.specs.JekyllEnds.{without_last}

pub less_one : (n : ℕ) → suc n - 1 ≡ n
less_one n = omega arith

pub last_lost : (out : List Datum) (x : Datum) → without_last (out ++ x ∷ []) ≡ out
last_lost out x =
    let n : length (out ++ x ∷ []) - 1 ≡ length out = omega (arith, length-append out (x ∷ [])) in
    ap (λ m. take m (out ++ x ∷ [])) n ∙ take-append_seam out (x ∷ [])

pub popped_is : (vs rest : List Value) (v : Value) → vs ≡ rest ++ v ∷ [] → list_of (items_view rest) ≡ without_last (list_of (items_view vs))
popped_is vs rest v e =
    list_of_view rest ∙ sym (last_lost (map view rest) (view v)) ∙ ap without_last (sym (list_of_view vs ∙ ap (map view) e ∙ map-append view rest (v ∷ [])))

pub one_in : (xs : List Value) → IsTrue (nat_eq (length xs) 1) → 0 < length xs
one_in [] h = let u : ⊥ = cc in absurd u
one_in (x ∷ xs) h = omega arith

-- what the first argument alone decides
pub of_first : (P : Answer → Type 0) (f : List Datum → Answer) → ((y : Datum) (ys : List Datum) → f (y ∷ ys) ≡ f (y ∷ [])) → (xs : List Value) (x : Value) → IsTrue (nat_eq (length xs) 1) → x ≡ get_or xs 0 x → P (f (view x ∷ [])) → P (f (map view xs))
of_first P f same [] x h e p = let u : ⊥ = cc in absurd u
of_first P f same (v ∷ xs) x h e p = subst P (sym (same (view v) (map view xs))) (subst (λ (z : Value). P (f (view z ∷ []))) e p)

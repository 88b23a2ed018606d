-- A list turned round, item by item, and the only argument of concat.
use Rattle.std.proofs.Common.{◌≡◌, ◌<◌, List, [], ◌∷◌, length, map, get_or, reverse, refl, subst, arith}
use mathlib.Core.List.{reverse_aux}
use Rattle.std.specs.Prelude.{IsTrue, nat_eq}
use Rattle.liquid_model.specs.Data.{Datum}
use Rattle.liquid_model.specs.View.{view}
use Rattle.liquid_model.specs.declared.value.Value.{Value}
use Rattle.liquid_model.specs.Arguments.{Answer}
use Rattle.liquid_filters.specs.Rows.{concat_answer, concat_by}

onto : {X Y : Type 0} (f : X → Y) (xs done : List X) → map f (reverse_aux xs done) ≡ reverse_aux (map f xs) (map f done)
onto f [] done = refl
onto f (x ∷ xs) done = onto f xs (x ∷ done)

pub map_reverse : {X Y : Type 0} (f : X → Y) (xs : List X) → map f (reverse xs) ≡ reverse (map f xs)
map_reverse f xs = onto f xs []

pub one_in : (xs : List Value) → IsTrue (nat_eq (length xs) 1) → 0 < length xs
one_in [] h = let u : ⊥ = cc in absurd u
one_in (x ∷ xs) h = omega arith

pub concat_given : (P : Answer → Type 0) (d : Datum) (xs : List Value) (x : Value) → IsTrue (nat_eq (length xs) 1) → x ≡ get_or xs 0 x → P (concat_by d (view x)) → P (concat_answer d (map view xs))
concat_given P d [] x h e p = let u : ⊥ = cc in absurd u
concat_given P d (y ∷ xs) x h e p = subst (λ (z : Value). P (concat_by d (view z))) e p

-- A list turned round, place by place.
use Rattle.std.proofs.Common.{◌≡◌, ℕ, suc, ◌-◌, ◌<◌, List, [], ◌∷◌, length, slice_get, reverse, Some, ap, refl, sym, ◌∙◌, arith}
use Rattle.std.proofs.lemmas.List.{get_or-reverse, length-reverse}
use Rattle.std.proofs.lemmas.Option.{slice_get-get_or}
use Rattle.liquid_model.specs.Answer.{IsTheOne}
use Rattle.liquid_model.specs.Data.{Datum}
use Rattle.liquid_model.proofs.Ones.{one}
use Rattle.liquid_filters.specs.ListPlaces.{IsReversed}

same_places : {X : Type 0} (xs ys : List X) → length xs ≡ length ys → ((i : ℕ) → i < length ys → slice_get xs i ≡ slice_get ys i) → xs ≡ ys
same_places [] [] n h = refl
same_places [] (y ∷ ys) n h = absurd (omega arith)
same_places (x ∷ xs) [] n h = absurd (omega arith)
same_places (x ∷ xs) (y ∷ ys) n h =
    let e : Some x ≡ Some y = h 0 (omega arith) in
    let f : x ≡ y = cc in
    ap (λ z. z ∷ xs) f ∙ ap (λ l. y ∷ l) (same_places xs ys (omega arith) (λ i l. h (suc i) (omega arith)))

turned : (ds : List Datum) (i : ℕ) → i < length ds → slice_get (reverse ds) i ≡ slice_get ds (length ds - 1 - i)
turned [] i h = absurd (omega arith)
turned (d ∷ ds) i h =
    slice_get-get_or (reverse (d ∷ ds)) i d (omega (arith, length-reverse (d ∷ ds)))
    ∙ ap Some (get_or-reverse (d ∷ ds) i d h)
    ∙ sym (slice_get-get_or (d ∷ ds) (length (d ∷ ds) - 1 - i) d (omega arith))

pub reversed_one : (ds : List Datum) → IsTheOne (IsReversed ds) (reverse ds)
reversed_one ds = one (IsReversed ds) (reverse ds) (length-reverse ds, turned ds)
    (λ out m. same_places out (reverse ds) (m.0 ∙ sym (length-reverse ds)) (λ i l. m.1 i (omega (arith, length-reverse ds)) ∙ sym (turned ds i (omega (arith, length-reverse ds)))))

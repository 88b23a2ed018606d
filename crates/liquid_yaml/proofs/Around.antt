-- Places that stand around others.
use Rattle.std.proofs.Common.{◌≡◌, ℕ, suc, arith, ◌-◌, List, [], ◌∷◌, ◌++◌, length, Bor, Option, Some, None, option_map, ap, refl, sym, ◌∙◌}
use Rattle.std.specs.List.{slice_get}
use Rattle.std.specs.Option.{option_copied, option_to_list}
use Rattle.liquid_yaml.specs.Places.{Around, around_view, column_of_place, inmost_column, places_view}
use Rattle.liquid_yaml.specs.declared.place.Place.{Place}

-- one more place, inside the others
pub places_push : (ps : List Place) (p : Place) (outer : List Around) → places_view (ps ++ p ∷ []) outer ≡ around_view p ∷ places_view ps outer
places_push [] p outer = refl
places_push (q ∷ ps) p outer = places_push ps p (around_view q ∷ outer)

pub places_pop : (old new : List Place) (r : Option Place) (p : Place) → old ≡ new ++ option_to_list r → r ≡ Some p → places_view old [] ≡ around_view p ∷ places_view new []
places_pop old new r p e s = ap (λ ps. places_view ps []) (e ∙ ap (λ r. new ++ option_to_list r) s) ∙ places_push new p []

-- the inmost place is the last one of a list
pub places_last : (q : Place) (ps : List Place) (outer : List Around)
    → inmost_column (places_view (q ∷ ps) outer) ≡ option_map (λ p. column_of_place (around_view p)) (slice_get (q ∷ ps) (length ps))
places_last q [] outer = refl
places_last q (r ∷ rs) outer = places_last r rs (around_view q ∷ outer)

pub some_last : (ps : List Place) (last : Option (Bor Place)) (place : Bor Place) (n : ℕ) → last ≡ Some place → option_copied last ≡ slice_get ps (length ps - 1) → n ≡ column_of_place (around_view place.now)
    → Some n ≡ inmost_column (places_view ps [])
some_last [] last place n e copied same = absurd (let h = sym copied ∙ ap option_copied e in cc)
some_last (q ∷ ps) last place n e copied same =
    let one : suc (length ps) - 1 ≡ length ps = omega arith in
    let found : slice_get (q ∷ ps) (length ps) ≡ Some place.now = ap (slice_get (q ∷ ps)) (sym one) ∙ sym copied ∙ ap option_copied e in
    ap Some same ∙ sym (places_last q ps [] ∙ ap (option_map (λ p. column_of_place (around_view p))) found)

pub none_last : (ps : List Place) (last : Option (Bor Place)) → last ≡ None → option_copied last ≡ slice_get ps (length ps - 1) → None ≡ inmost_column (places_view ps [])
none_last [] last e copied = refl
none_last (q ∷ ps) last e copied =
    let one : suc (length ps) - 1 ≡ length ps = omega arith in
    let found : slice_get (q ∷ ps) (length ps) ≡ None = ap (slice_get (q ∷ ps)) (sym one) ∙ sym copied ∙ ap option_copied e in
    sym (places_last q ps [] ∙ ap (option_map (λ p. column_of_place (around_view p))) found)

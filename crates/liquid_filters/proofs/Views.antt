-- Values in a list.
use Rattle.std.proofs.Common.{◌≡◌, ℕ, zero, suc, ◌-◌, ◌<◌, min, ℤ, List, [], ◌∷◌, Vec, Global, length, length-drop, get_or, take, take_all, drop, map, Some, ap, sym, ◌∙◌, arith}
use Rattle.std.proofs.lemmas.List.{drop-map, length-map}
use Rattle.std.specs.List.{take-map}
use Rattle.liquid_model.proofs.Views.{list_of_view, view-Array}
use Rattle.liquid_model.specs.Data.{array}
use Rattle.liquid_model.specs.View.{view, items_of}
use Rattle.liquid_model.specs.declared.value.Value.{Value, Array}
use Rattle.liquid_filters.specs.TextPlaces.{start, part_from}
use Rattle.liquid_filters.specs.Slice.{items_part, part}

-- the values from place i on begin with the one there
pub drop_at : (vs : List Value) (i : ℕ) (v d : Value) → i < length vs → v ≡ get_or vs i d → drop i (map view vs) ≡ view v ∷ drop (suc i) (map view vs)
drop_at [] i v d l e = absurd (omega arith)
drop_at (w ∷ vs) zero v d l e = ap (λ x. view x ∷ map view vs) (sym e)
drop_at (w ∷ vs) (suc i) v d l e = drop_at vs i v d (omega arith) e

-- a part of a list, seen item by item
pub items_part_is : (offset : ℤ) (count from k : ℕ) (vs rest : List Value) → Some from ≡ start (length vs) offset → rest ≡ take (length vs - from) (drop from vs) → k ≡ min count (length rest)
    → map view (take k rest) ≡ items_part offset count (map view vs)
items_part_is offset count from k vs rest place cut e =
    let whole : rest ≡ drop from vs = cut ∙ take_all (length vs - from) (drop from vs) (omega (arith, length-drop from vs)) in
    let size : k ≡ min count (length vs - from) = e ∙ ap (λ n. min count n) (ap length whole ∙ length-drop from vs) in
    ap (map view) (ap (take k) whole ∙ ap (λ n. take n (drop from vs)) size)
    ∙ sym (take-map view (min count (length vs - from)) (drop from vs)) ∙ ap (take (min count (length vs - from))) (sym (drop-map view from vs))
    ∙ ap (λ o. part_from (length vs) o count (map view vs)) place ∙ ap (λ n. part_from n (start n offset) count (map view vs)) (sym (length-map vs view))

-- a list's part, as a value
pub view_part : (offset : ℤ) (count : ℕ) (input : Value) (items made : Vec Value Global) → input ≡ Array items → map view made.items ≡ items_part offset count (map view items.items)
    → view (Array made) ≡ part offset count (view input)
view_part offset count input items made known e =
    view-Array made ∙ ap (λ ds. array (items_of ds)) (e ∙ ap (items_part offset count) (sym (list_of_view items.items)))
    ∙ ap (part offset count) (sym (view-Array items)) ∙ ap (λ v. part offset count (view v)) (sym known)

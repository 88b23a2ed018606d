-- Arguments at their places.
use Rattle.std.proofs.Common.{◌≡◌, ℕ, zero, suc, ◌<◌, List, [], ◌∷◌, length, get_or, drop, map, ap, sym, arith}
use Rattle.liquid_model.specs.View.{view}
use Rattle.liquid_model.specs.declared.value.Value.{Value}

-- the values from place i on begin with the one there
pub drop_at : (vs : List Value) (i : ℕ) (v d : Value) → i < length vs → v ≡ get_or vs i d
    → drop i (map view vs) ≡ view v ∷ drop (suc i) (map view vs)
drop_at [] i v d l e = absurd (omega arith)
drop_at (w ∷ vs) zero v d l e = ap (λ x. view x ∷ map view vs) (sym e)
drop_at (w ∷ vs) (suc i) v d l e = drop_at vs i v d (omega arith) e

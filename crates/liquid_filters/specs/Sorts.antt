-- What a sort is: the keys never fall along it, and the items with one key keep their order.
use Rattle.std.specs.Prelude.{◌≡◌, ◌≢◌, ⊤, List, [], ◌∷◌, map, filter}
use Rattle.std.specs.Ordering.{is_eq}
use Rattle.std.specs.declared.cmp.Ordering.TheVariants.{Greater}
use Rattle.liquid_model.specs.Data.{Datum}
use Rattle.liquid_filters.specs.Sorting.{Key, key_order}

abbrev pub NeverFall : List Key → Type 0
NeverFall [] = ⊤
NeverFall (k ∷ []) = ⊤
NeverFall (k ∷ l ∷ ks) = (key_order k l ≢ Greater) × NeverFall (l ∷ ks)

-- the items with the key k
abbrev pub with_key : (Datum → Key) → Key → List Datum → List Datum
with_key key k ds = filter (λ d. is_eq (key_order k (key d))) ds

pub record IsSort (key : Datum → Key) (ds out : List Datum) : Type 0 where
  pub rise : NeverFall (map key out)
  pub keep : (k : Key) → with_key key k out ≡ with_key key k ds

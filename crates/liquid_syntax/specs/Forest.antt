-- trees with heads of any type
use Rattle.std.specs.Prelude.{ℕ, suc, ◌+◌}

mutual
  pub data Forest (A : Type 0) : Type 0 where
    empty : Forest A
    node : A → Bodies A → Forest A → Forest A

  pub data Bodies (A : Type 0) : Type 0 where
    no_bodies : Bodies A
    body : Forest A → Bodies A → Bodies A

-- how many nodes there are, in all depths
abbrev mutual
  pub forest_size : {A : Type 0} → Forest A → ℕ
  forest_size empty = 0
  forest_size (node h bs rest) = suc (sizes bs + forest_size rest)

  pub sizes : {A : Type 0} → Bodies A → ℕ
  sizes no_bodies = 0
  sizes (body f bs) = forest_size f + sizes bs

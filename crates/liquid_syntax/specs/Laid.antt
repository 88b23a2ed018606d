-- A forest as one list of nodes in source order: a node is followed by the nodes of its bodies,
-- body after body.
use Rattle.std.specs.Prelude.{◌≡◌, ℕ, zero, suc, ◌+◌, ◌-◌, List, [], ◌∷◌, ◌++◌, Some, slice_get}
use Rattle.liquid_syntax.specs.Forest.{Forest, Bodies, empty, node, no_bodies, body, forest_size}
use Rattle.liquid_syntax.specs.Forest.{sizes}

-- a node of the list: its head, and where each of its bodies ends. A body begins where the one
-- before ends, and the first after the node
pub record Flat (A : Type 0) : Type 0 where
  pub head : A
  pub ends : List ℕ

-- the index one past the last descendant of a node whose bodies begin at k
abbrev pub last_end : ℕ → List ℕ → ℕ
last_end k [] = k
last_end k (e ∷ es) = last_end e es

-- the nodes from `at` to `to` are those of the forest
abbrev mutual
  pub IsLaidOut : {A : Type 0} → List (Flat A) → ℕ → Forest A → ℕ → Type 0
  IsLaidOut ns at empty to = at ≡ to
  IsLaidOut ns at (node h bs rest) to =
      (x : Flat _) × (slice_get ns at ≡ Some x) × (x.head ≡ h) × StandBodies ns (at + 1) x.ends bs ×
      IsLaidOut ns (last_end (at + 1) x.ends) rest to

  pub StandBodies : {A : Type 0} → List (Flat A) → ℕ → List ℕ → Bodies A → Type 0
  StandBodies ns at es no_bodies = es ≡ []
  StandBodies ns at es (body f bs) =
      (e : ℕ) × (rest : List ℕ) × (es ≡ e ∷ rest) × IsLaidOut ns at f e × StandBodies ns e rest bs

-- the ends of bodies of which the first begins at k
abbrev pub ends_of : {A : Type 0} → ℕ → Bodies A → List ℕ
ends_of k no_bodies = []
ends_of k (body f bs) = (k + forest_size f) ∷ ends_of (k + forest_size f) bs

-- the list of a forest whose first node has index k
abbrev mutual
  pub laid : {A : Type 0} → ℕ → Forest A → List (Flat A)
  laid k empty = []
  laid k (node h bs rest) =
      record {
        head = h;
        ends = ends_of (k + 1) bs;
      } ∷ (laid_bodies (k + 1) bs ++ laid (k + 1 + sizes bs) rest)

  pub laid_bodies : {A : Type 0} → ℕ → Bodies A → List (Flat A)
  laid_bodies k no_bodies = []
  laid_bodies k (body f bs) = laid k f ++ laid_bodies (k + forest_size f) bs

-- the first roots that have n nodes together, and the roots after them
abbrev pub front : {A : Type 0} → Forest A → ℕ → Forest A
front empty n = empty
front (node h bs rest) zero = empty
front (node h bs rest) (suc n) = node h bs (front rest (n - sizes bs))

abbrev pub back : {A : Type 0} → Forest A → ℕ → Forest A
back empty n = empty
back (node h bs rest) zero = node h bs rest
back (node h bs rest) (suc n) = back rest (n - sizes bs)

-- what follows a node, cut into its bodies and the rest
abbrev pub bodies_in : {A : Type 0} → ℕ → List ℕ → Forest A → Bodies A
bodies_in k [] f = no_bodies
bodies_in k (e ∷ es) f = body (front f (e - k)) (bodies_in e es (back f (e - k)))

abbrev pub rest_in : {A : Type 0} → ℕ → List ℕ → Forest A → Forest A
rest_in k [] f = f
rest_in k (e ∷ es) f = rest_in e es (back f (e - k))

-- the forest of a list whose first node has index k
abbrev pub tree_at : {A : Type 0} → ℕ → List (Flat A) → Forest A
tree_at k [] = empty
tree_at k (x ∷ xs) =
    node x.head (bodies_in (k + 1) x.ends (tree_at (k + 1) xs))
    (rest_in (k + 1) x.ends (tree_at (k + 1) xs))

abbrev pub tree_of : {A : Type 0} → List (Flat A) → Forest A
tree_of ns = tree_at 0 ns

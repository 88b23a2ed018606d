-- Lists of which the ends alone tell that they are a tree's.
use Rattle.std.specs.Prelude.{◌≡◌, ℕ, List, map}
use Rattle.std.specs.Coded.{Coded-set, coded_ℕ, coded_list}
use Rattle.liquid_syntax.specs.Laid.{Flat, laid, tree_of}

abbrev pub ends_in : {A : Type 0} → List (Flat A) → List (List ℕ)
ends_in xs = map (λ x. x.ends) xs

-- nodes of which only the ends are known
abbrev pub with_ends : List ℕ → Flat (Unit {0})
with_ends es = record { head = tt; ends = es }

-- The ends nest: read as a tree and laid out again, they are the same. So each body begins where
-- the one before it ends, and ends within its node.
unfoldable pub AreNested : List (List ℕ) → Type 0
AreNested es = ends_in (laid 0 (tree_of (map with_ends es))) ≡ es

pub AreNested-prop : (es : List (List ℕ)) → IsProp (AreNested es)
unfolding AreNested
AreNested-prop es =
    Coded-set (coded_list (coded_list coded_ℕ)) (ends_in (laid 0 (tree_of (map with_ends es)))) es

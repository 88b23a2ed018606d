-- What becomes of a visitor that gets names, one after another.
use Rattle.std.specs.Prelude.{Bool, true, false, List, [], ◌++◌}
use Rattle.liquid_model.specs.Texts.{Text}

-- `tells u names b v` says that a visitor was u, got the names in their order, and is v now; where
-- b is true it ended the visit, so it got only the first of them.
-- None is nothing, one part after another is both, and once it has ended it gets nothing of what
-- would follow.
pub record IsTelling {V : Type 0} (tells : V → List Text → Bool → V → Type 0) : Type 0 where
  pub none : (v : V) → tells v [] false v
  pub both : (u v w : V) (xs ys : List Text) (b : Bool) → tells u xs false v → tells v ys b w →
      tells u (xs ++ ys) b w
  pub ends : (u v : V) (xs ys : List Text) → tells u xs true v → tells u (xs ++ ys) true v

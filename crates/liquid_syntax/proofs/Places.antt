-- Where the nodes of a forest stand.
use Rattle.std.proofs.Common.{◌≡◌, ℕ, ◌+◌, ◌<◌, ◌≤◌, List, [], ◌∷◌, length, Some, refl, sym, ap, ◌∙◌, subst, arith}
use Rattle.std.specs.Prelude.{slice_get}
use Rattle.std.proofs.lemmas.Option.{slice_get_within}
use Rattle.liquid_syntax.specs.Forest.{Forest, Bodies, empty, node, no_bodies, body}
use Rattle.liquid_syntax.specs.Laid.{Flat, IsLaidOut, StandBodies, last_end}

-- a range does not end before it begins
mutual
  pub Stands-le : {A : Type 0} → (ns : List (Flat A)) (at : ℕ) (f : Forest A) (to : ℕ) → IsLaidOut ns at f to → at ≤ to
  Stands-le ns at empty to s = omega arith
  Stands-le ns at (node h bs rest) to (x, is, eq, inner, after) =
      omega (arith, StandBodies-le ns (at + 1) x.ends bs inner, Stands-le ns (last_end (at + 1) x.ends) rest to after)

  pub StandBodies-le : {A : Type 0} → (ns : List (Flat A)) (at : ℕ) (es : List ℕ) (bs : Bodies A) → StandBodies ns at es bs → at ≤ last_end at es
  StandBodies-le ns at es no_bodies s = subst (λ l. at ≤ last_end at l) (sym s) (omega arith)
  StandBodies-le ns at es (body f bs) (e, rest, eq, here, more) =
      subst (λ l. at ≤ last_end at l) (sym eq)
      (omega (arith, Stands-le ns at f e here, StandBodies-le ns e rest bs more))

-- what is at the first place of a range that is not empty
abbrev pub First : {A : Type 0} → List (Flat A) → ℕ → Forest A → ℕ → Flat A → Type 0
First ns at f to x =
    (bs : Bodies _) × (rest : Forest _) × (f ≡ node x.head bs rest) × StandBodies ns (at + 1) x.ends bs × IsLaidOut ns (last_end (at + 1) x.ends) rest to

same_some : {A : Type 0} → (x y : Flat A) → Some x ≡ Some y → x ≡ y
same_some x y e = cc

-- a range that is not empty begins with a node
pub first : {A : Type 0} → (ns : List (Flat A)) (at : ℕ) (f : Forest A) (to : ℕ) (x : Flat A) → IsLaidOut ns at f to → at < to → slice_get ns at ≡ Some x → First ns at f to x
first ns at empty to x s lt is = absurd (omega arith)
first ns at (node h bs rest) to x (y, is', eq, inner, after) lt is =
    let same : y ≡ x = same_some y x (sym is' ∙ is) in
    subst (First ns at (node h bs rest) to) same (bs, rest, ap (λ k. node k bs rest) (sym eq), inner, after)

-- a node is inside the list
pub first-within : {A : Type 0} → (ns : List (Flat A)) (at : ℕ) (f : Forest A) (to : ℕ) → IsLaidOut ns at f to → at < to → at < length ns
first-within ns at empty to s lt = absurd (omega arith)
first-within ns at (node h bs rest) to (y, is', eq, inner, after) lt = slice_get_within ns at y is'

-- the one body, and the two bodies, of a node that has so many ends
pub one_body : {A : Type 0} → (ns : List (Flat A)) (k e : ℕ) (bs : Bodies A) → StandBodies ns k (e ∷ []) bs → (b : Forest A) × (bs ≡ body b no_bodies) × IsLaidOut ns k b e
one_body ns k e no_bodies s = absurd cc
one_body ns k e (body f no_bodies) (e', rest, eq, here, more) =
    let same : e' ≡ e = cc in
    (f, refl, subst (IsLaidOut ns k f) same here)
one_body ns k e (body f (body g bs)) (e', rest, eq, here, (e2, rest2, eq2, here2, more2)) = absurd cc

pub two_bodies : {A : Type 0} → (ns : List (Flat A)) (k t e : ℕ) (bs : Bodies A) → StandBodies ns k (t ∷ e ∷ []) bs → (b d : Forest A) × (bs ≡ body b (body d no_bodies)) × IsLaidOut ns k b t × IsLaidOut ns t d e
two_bodies ns k t e no_bodies s = absurd cc
two_bodies ns k t e (body f bs) (t', rest, eq, here, more) =
    let same : t' ≡ t = cc in
    let ends : rest ≡ e ∷ [] = cc in
    let (d, is, there) = one_body ns t e bs (subst (λ l. StandBodies ns t l bs) ends (subst (λ m. StandBodies ns m rest bs) same more)) in
    (f, d, ap (body f) is, subst (IsLaidOut ns k f) same here, there)

-- a range that is over has no node
pub nothing_left : {A : Type 0} → (ns : List (Flat A)) (at : ℕ) (f : Forest A) (to : ℕ) → IsLaidOut ns at f to → to ≤ at → f ≡ empty
nothing_left ns at empty to s le = refl
nothing_left ns at (node h bs rest) to (x, is, eq, inner, after) le =
    absurd (omega (arith, StandBodies-le ns (at + 1) x.ends bs inner, Stands-le ns (last_end (at + 1) x.ends) rest to after))

-- A forest, laid out as a list and read back.
use Rattle.std.proofs.Common.{◌≡◌, ℕ, suc, ◌+◌, ◌-◌, List, [], ◌∷◌, ◌++◌, length, Some, refl, sym, ap, ◌∙◌, subst, arith, append_assoc, length-append, add-one}
use Rattle.std.proofs.lemmas.List.{append-nil}
use Rattle.std.specs.Prelude.{slice_get}
use Rattle.liquid_syntax.specs.Forest.{Forest, Bodies, empty, node, no_bodies, body, forest_size, sizes}
use Rattle.liquid_syntax.specs.Laid.{Flat, IsLaidOut, StandBodies, last_end, ends_of, laid, laid_bodies, front, back, bodies_in, rest_in, tree_at, tree_of}

-- one forest after another
abbrev pub append : {A : Type 0} → Forest A → Forest A → Forest A
append empty g = g
append (node h bs rest) g = node h bs (append rest g)

-- the forests of the bodies, one after another
abbrev pub joined : {A : Type 0} → Bodies A → Forest A
joined no_bodies = empty
joined (body f bs) = append f (joined bs)

pub append-assoc : {A : Type 0} → (f g h : Forest A) → append (append f g) h ≡ append f (append g h)
append-assoc empty g h = refl
append-assoc (node x bs rest) g h = ap (node x bs) (append-assoc rest g h)

pub append-empty : {A : Type 0} → (f : Forest A) → append f empty ≡ f
append-empty empty = refl
append-empty (node x bs rest) = ap (node x bs) (append-empty rest)

front-none : {A : Type 0} → (g : Forest A) → front g 0 ≡ empty
front-none empty = refl
front-none (node h bs rest) = refl

back-none : {A : Type 0} → (g : Forest A) → back g 0 ≡ g
back-none empty = refl
back-none (node h bs rest) = refl

add_less : (a b : ℕ) → a + b - a ≡ b
add_less a b = omega arith

front-append : {A : Type 0} → (f g : Forest A) → front (append f g) (forest_size f) ≡ f
front-append empty g = front-none g
front-append (node h bs rest) g =
    ap (λ n. node h bs (front (append rest g) n)) (add_less (sizes bs) (forest_size rest)) ∙ ap (node h bs) (front-append rest g)

back-append : {A : Type 0} → (f g : Forest A) → back (append f g) (forest_size f) ≡ g
back-append empty g = back-none g
back-append (node h bs rest) g =
    ap (back (append rest g)) (add_less (sizes bs) (forest_size rest)) ∙ back-append rest g

bodies-joined : {A : Type 0} → (k : ℕ) (bs : Bodies A) (g : Forest A) → bodies_in k (ends_of k bs) (append (joined bs) g) ≡ bs
bodies-joined k no_bodies g = refl
bodies-joined k (body f bs) g =
    let fg = append (joined bs) g in
    ap (λ h. body (front h (k + forest_size f - k)) (bodies_in (k + forest_size f) (ends_of (k + forest_size f) bs) (back h (k + forest_size f - k)))) (append-assoc f (joined bs) g)
    ∙ ap (λ n. body (front (append f fg) n) (bodies_in (k + forest_size f) (ends_of (k + forest_size f) bs) (back (append f fg) n))) (add_less k (forest_size f))
    ∙ ap (λ h. body h (bodies_in (k + forest_size f) (ends_of (k + forest_size f) bs) (back (append f fg) (forest_size f)))) (front-append f fg)
    ∙ ap (λ h. body f (bodies_in (k + forest_size f) (ends_of (k + forest_size f) bs) h)) (back-append f fg)
    ∙ ap (body f) (bodies-joined (k + forest_size f) bs g)

rest-joined : {A : Type 0} → (k : ℕ) (bs : Bodies A) (g : Forest A) → rest_in k (ends_of k bs) (append (joined bs) g) ≡ g
rest-joined k no_bodies g = refl
rest-joined k (body f bs) g =
    let fg = append (joined bs) g in
    ap (λ h. rest_in (k + forest_size f) (ends_of (k + forest_size f) bs) (back h (k + forest_size f - k))) (append-assoc f (joined bs) g)
    ∙ ap (λ n. rest_in (k + forest_size f) (ends_of (k + forest_size f) bs) (back (append f fg) n)) (add_less k (forest_size f))
    ∙ ap (λ h. rest_in (k + forest_size f) (ends_of (k + forest_size f) bs) h) (back-append f fg)
    ∙ rest-joined (k + forest_size f) bs g

mutual
  pub tree-laid : {A : Type 0} → (k : ℕ) (f : Forest A) (ns : List (Flat A)) → tree_at k (laid k f ++ ns) ≡ append f (tree_at (k + forest_size f) ns)
  tree-laid k empty ns = let e : k ≡ k + 0 = omega arith in ap (λ n. tree_at n ns) e
  tree-laid k (node h bs rest) ns =
      let after = append rest (tree_at (k + 1 + sizes bs + forest_size rest) ns) in
      let inner : tree_at (k + 1) ((laid_bodies (k + 1) bs ++ laid (k + 1 + sizes bs) rest) ++ ns) ≡ append (joined bs) after =
      ap (tree_at (k + 1)) (append_assoc (laid_bodies (k + 1) bs) (laid (k + 1 + sizes bs) rest) ns)
      ∙ tree-laid_bodies (k + 1) bs (laid (k + 1 + sizes bs) rest ++ ns)
      ∙ ap (append (joined bs)) (tree-laid (k + 1 + sizes bs) rest ns) in
      let e : k + 1 + sizes bs + forest_size rest ≡ k + suc (sizes bs + forest_size rest) = omega arith in
      ap (λ t. node h (bodies_in (k + 1) (ends_of (k + 1) bs) t) (rest_in (k + 1) (ends_of (k + 1) bs) t)) inner
      ∙ ap (λ b. node h b (rest_in (k + 1) (ends_of (k + 1) bs) (append (joined bs) after))) (bodies-joined (k + 1) bs after)
      ∙ ap (node h bs) (rest-joined (k + 1) bs after)
      ∙ ap (λ n. node h bs (append rest (tree_at n ns))) e

  pub tree-laid_bodies : {A : Type 0} → (k : ℕ) (bs : Bodies A) (ns : List (Flat A)) → tree_at k (laid_bodies k bs ++ ns) ≡ append (joined bs) (tree_at (k + sizes bs) ns)
  tree-laid_bodies k no_bodies ns = let e : k ≡ k + 0 = omega arith in ap (λ n. tree_at n ns) e
  tree-laid_bodies k (body f bs) ns =
      let e : k + forest_size f + sizes bs ≡ k + (forest_size f + sizes bs) = omega arith in
      ap (tree_at k) (append_assoc (laid k f) (laid_bodies (k + forest_size f) bs) ns)
      ∙ tree-laid k f (laid_bodies (k + forest_size f) bs ++ ns)
      ∙ ap (append f) (tree-laid_bodies (k + forest_size f) bs ns ∙ ap (λ n. append (joined bs) (tree_at n ns)) e)
      ∙ sym (append-assoc f (joined bs) (tree_at (k + (forest_size f + sizes bs)) ns))

-- the tree of the list of a tree is that tree
pub tree_of-laid : {A : Type 0} → (f : Forest A) → tree_of (laid 0 f) ≡ f
tree_of-laid f =
    ap tree_of (sym (append-nil (laid 0 f))) ∙ tree-laid 0 f [] ∙ append-empty f

mutual
  pub length-laid : {A : Type 0} → (k : ℕ) (f : Forest A) → length (laid k f) ≡ forest_size f
  length-laid k empty = refl
  length-laid k (node h bs rest) =
      ap suc (length-append (laid_bodies (k + 1) bs) (laid (k + 1 + sizes bs) rest)
      ∙ ap (λ n. n + length (laid (k + 1 + sizes bs) rest)) (length-laid_bodies (k + 1) bs)
      ∙ ap (λ n. sizes bs + n) (length-laid (k + 1 + sizes bs) rest))

  pub length-laid_bodies : {A : Type 0} → (k : ℕ) (bs : Bodies A) → length (laid_bodies k bs) ≡ sizes bs
  length-laid_bodies k no_bodies = refl
  length-laid_bodies k (body f bs) =
      length-append (laid k f) (laid_bodies (k + forest_size f) bs)
      ∙ ap (λ n. n + length (laid_bodies (k + forest_size f) bs)) (length-laid k f)
      ∙ ap (λ n. forest_size f + n) (length-laid_bodies (k + forest_size f) bs)

last-ends : {A : Type 0} → (k : ℕ) (bs : Bodies A) → last_end k (ends_of k bs) ≡ k + sizes bs
last-ends k no_bodies = omega arith
last-ends k (body f bs) = let e : k + forest_size f + sizes bs ≡ k + (forest_size f + sizes bs) = omega arith in last-ends (k + forest_size f) bs ∙ e

-- these nodes stand in the list at this place
abbrev pub Has : {A : Type 0} → List (Flat A) → ℕ → List (Flat A) → Type 0
Has ns at [] = Unit {0}
Has ns at (x ∷ xs) = (slice_get ns at ≡ Some x) × Has ns (at + 1) xs

has_front : {A : Type 0} → (ns : List (Flat A)) (at : ℕ) (a b : List (Flat A)) → Has ns at (a ++ b) → Has ns at a
has_front ns at [] b h = tt
has_front ns at (i ∷ a) b h = (h.0, has_front ns (at + 1) a b h.1)

has_back : {A : Type 0} → (ns : List (Flat A)) (at : ℕ) (a b : List (Flat A)) → Has ns at (a ++ b) → Has ns (at + length a) b
has_back ns at [] b h = let e : at ≡ at + 0 = omega arith in subst (λ n. Has ns n b) e h
has_back ns at (i ∷ a) b h =
    let e : at + 1 + length a ≡ at + length (i ∷ a) = omega arith in
    subst (λ n. Has ns n b) e (has_back ns (at + 1) a b h.1)

has_later : {A : Type 0} → (x : Flat A) (ns : List (Flat A)) (at : ℕ) (xs : List (Flat A)) → Has ns at xs → Has (x ∷ ns) (at + 1) xs
has_later x ns at [] h = tt
has_later x ns at (y ∷ xs) h =
    let e : slice_get (x ∷ ns) (at + 1) ≡ Some y = rw add-one h.0 in
    (e, has_later x ns (at + 1) xs h.1)

pub has_all : {A : Type 0} → (ns : List (Flat A)) → Has ns 0 ns
has_all [] = tt
has_all (x ∷ ns) = (refl, has_later x ns 0 ns (has_all ns))

-- a forest that is laid out at a place stands there
mutual
  pub Stands-laid : {A : Type 0} → (ns : List (Flat A)) (at : ℕ) (f : Forest A) → Has ns at (laid at f) → IsLaidOut ns at f (at + forest_size f)
  Stands-laid ns at empty h = omega arith
  Stands-laid ns at (node x bs rest) h =
      let e : at + 1 + sizes bs + forest_size rest ≡ at + suc (sizes bs + forest_size rest) = omega arith in
      let k : at + 1 + length (laid_bodies (at + 1) bs) ≡ at + 1 + sizes bs = ap (λ n. at + 1 + n) (length-laid_bodies (at + 1) bs) in
      let after = has_back ns (at + 1) (laid_bodies (at + 1) bs) (laid (at + 1 + sizes bs) rest) h.1 in
      let after' = subst (λ n. Has ns n (laid (at + 1 + sizes bs) rest)) k after in
      let stands = subst (IsLaidOut ns (at + 1 + sizes bs) rest) e (Stands-laid ns (at + 1 + sizes bs) rest after') in (
        record { head = x; ends = ends_of (at + 1) bs },
        h.0,
        refl,
        Stands-laid_bodies ns (at + 1) bs (has_front ns (at + 1) (laid_bodies (at + 1) bs) (laid (at + 1 + sizes bs) rest) h.1),
        subst (λ n. IsLaidOut ns n rest (at + suc (sizes bs + forest_size rest))) (sym (last-ends (at + 1) bs)) stands,
      )

  pub Stands-laid_bodies : {A : Type 0} → (ns : List (Flat A)) (at : ℕ) (bs : Bodies A) → Has ns at (laid_bodies at bs) → StandBodies ns at (ends_of at bs) bs
  Stands-laid_bodies ns at no_bodies h = refl
  Stands-laid_bodies ns at (body f bs) h =
      let k : at + length (laid at f) ≡ at + forest_size f = ap (λ n. at + n) (length-laid at f) in
      let more = subst (λ n. Has ns n (laid_bodies (at + forest_size f) bs)) k (has_back ns at (laid at f) (laid_bodies (at + forest_size f) bs) h) in
      (at + forest_size f, ends_of (at + forest_size f) bs, refl, Stands-laid ns at f (has_front ns at (laid at f) (laid_bodies (at + forest_size f) bs) h), Stands-laid_bodies ns (at + forest_size f) bs more)

-- the whole list is the forest's
pub whole-stands : {A : Type 0} → (ns : List (Flat A)) (f : Forest A) → laid 0 f ≡ ns → IsLaidOut ns 0 f (length ns)
whole-stands ns f e =
    let long : 0 + forest_size f ≡ length ns = let a : 0 + forest_size f ≡ forest_size f = omega arith in a ∙ sym (length-laid 0 f) ∙ ap length e in
    subst (IsLaidOut ns 0 f) long (Stands-laid ns 0 f (subst (λ l. Has ns 0 l) (sym e) (has_all ns)))

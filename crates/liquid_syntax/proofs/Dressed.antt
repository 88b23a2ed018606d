-- A list whose ends nest is that of a tree.
use Rattle.std.proofs.Common.{◌≡◌, ℕ, suc, ◌+◌, List, [], ◌∷◌, ◌++◌, map, refl, sym, ap, ◌∙◌}
use Rattle.std.proofs.lemmas.List.{map-append}
use Rattle.liquid_syntax.specs.Forest.{Forest, Bodies, empty, node, no_bodies, body, forest_size, sizes}
use Rattle.liquid_syntax.specs.Laid.{Flat, ends_of, laid, laid_bodies, tree_of}
use Rattle.liquid_syntax.proofs.Round.{tree_of-laid}
use Rattle.liquid_syntax.specs.Nested.{ends_in, with_ends, AreNested}

undressed : {A : Type 0} → Flat A → Flat (Unit {0})
undressed x = record { head = tt; ends = x.ends }

undress : {A : Type 0} → List (Flat A) → List (Flat (Unit {0}))
undress xs = map undressed xs

-- a part of a list whose images are two lists
split_map : {A B : Type 0} (f : A → B) (xs : List A) (ys zs : List B) → map f xs ≡ ys ++ zs → (us : List A) × (vs : List A) × (xs ≡ us ++ vs) × (map f us ≡ ys) × (map f vs ≡ zs)
split_map f xs [] zs h = ([], xs, refl, refl, h)
split_map f [] (y ∷ ys) zs h = absurd cc
split_map f (x ∷ xs) (y ∷ ys) zs h =
    let tail : map f xs ≡ ys ++ zs = cc in
    let head : f x ≡ y = cc in
    let r = split_map f xs ys zs tail in
    (x ∷ r.0, r.1, ap (λ l. x ∷ l) r.2, ap (λ l. f x ∷ l) r.3 ∙ ap (λ z. z ∷ ys) head, r.4)

mutual
  unfolding undressed undress

  dress : {A : Type 0} (k : ℕ) (g : Forest (Unit {0})) (xs : List (Flat A)) → undress xs ≡ laid k g → (f : Forest A) × (xs ≡ laid k f) × (forest_size f ≡ forest_size g)
  dress k empty [] h = (empty, refl, refl)
  dress k empty (x ∷ xs) h = absurd cc
  dress k (node u bs rest) [] h = absurd cc
  dress k (node u bs rest) (x ∷ xs) h =
      let tail : map undressed xs ≡ laid_bodies (k + 1) bs ++ laid (k + 1 + sizes bs) rest = cc in
      let head : undressed x ≡ record { head = u; ends = ends_of (k + 1) bs } = cc in
      let (us, vs, parts, first, second) = split_map undressed xs (laid_bodies (k + 1) bs) (laid (k + 1 + sizes bs) rest) tail in
      let (cs, inner, long, ends) = dress_bodies (k + 1) bs us first in
      let (f, after, more) = dress (k + 1 + sizes bs) rest vs second in
      let is : x ≡ record { head = x.head; ends = ends_of (k + 1) cs } = ap (λ (es : List ℕ). record x { ends = es }) (ap (λ (y : Flat (Unit {0})). y.ends) head ∙ sym ends) in
      let here : vs ≡ laid (k + 1 + sizes cs) f = after ∙ ap (λ n. laid (k + 1 + n) f) (sym long) in (
        node x.head cs f,
        ap (λ l. x ∷ l) (parts ∙ ap (λ l. l ++ vs) inner ∙ ap (λ l. laid_bodies (k + 1) cs ++ l) here) ∙ ap (λ y. y ∷ (laid_bodies (k + 1) cs ++ laid (k + 1 + sizes cs) f)) is,
        ap suc (ap (λ n. n + forest_size f) long ∙ ap (λ n. sizes bs + n) more),
      )

  dress_bodies : {A : Type 0} (k : ℕ) (bs : Bodies (Unit {0})) (xs : List (Flat A)) → undress xs ≡ laid_bodies k bs → (cs : Bodies A) × (xs ≡ laid_bodies k cs) × (sizes cs ≡ sizes bs) × (ends_of k cs ≡ ends_of k bs)
  dress_bodies k no_bodies [] h = (no_bodies, refl, refl, refl)
  dress_bodies k no_bodies (x ∷ xs) h = absurd cc
  dress_bodies k (body g bs) xs h =
      let (us, vs, parts, first, second) = split_map undressed xs (laid k g) (laid_bodies (k + forest_size g) bs) h in
      let (f, inner, long) = dress k g us first in
      let (cs, after, more, ends) = dress_bodies (k + forest_size g) bs vs second in
      let here : vs ≡ laid_bodies (k + forest_size f) cs = after ∙ ap (λ n. laid_bodies (k + n) cs) (sym long) in (
        body f cs,
        parts ∙ ap (λ l. l ++ vs) inner ∙ ap (λ l. laid k f ++ l) here,
        ap (λ n. n + sizes cs) long ∙ ap (λ n. forest_size g + n) more,
        ap (λ n. (k + n) ∷ ends_of (k + n) cs) long ∙ ap (λ l. (k + forest_size g) ∷ l) ends,
      )

with_ends_in : {A : Type 0} (xs : List (Flat A)) → map with_ends (ends_in xs) ≡ undress xs
unfolding undressed undress
with_ends_in [] = refl
with_ends_in (x ∷ xs) = ap (λ l. undressed x ∷ l) (with_ends_in xs)

undress_bare : (xs : List (Flat (Unit {0}))) → undress xs ≡ xs
unfolding undressed undress
undress_bare [] = refl
undress_bare (x ∷ xs) = ap (λ l. x ∷ l) (undress_bare xs)

-- a list whose ends nest is laid out of its own tree
pub nested_laid : {A : Type 0} (xs : List (Flat A)) → AreNested (ends_in xs) → laid 0 (tree_of xs) ≡ xs
unfolding AreNested
nested_laid xs h =
    let g = tree_of (map with_ends (ends_in xs)) in
    let e : undress xs ≡ laid 0 g = sym (with_ends_in xs) ∙ ap (map with_ends) (sym h) ∙ with_ends_in (laid 0 g) ∙ undress_bare (laid 0 g) in
    let r = dress 0 g xs e in
    ap (λ l. laid 0 (tree_of l)) r.1 ∙ ap (laid 0) (tree_of-laid r.0) ∙ sym r.1

-- ---- the list of a tree nests

mutual
  strip : {A : Type 0} → Forest A → Forest (Unit {0})
  strip empty = empty
  strip (node h bs rest) = node tt (strip_bodies bs) (strip rest)

  strip_bodies : {A : Type 0} → Bodies A → Bodies (Unit {0})
  strip_bodies no_bodies = no_bodies
  strip_bodies (body f bs) = body (strip f) (strip_bodies bs)

mutual
  unfolding strip

  size_strip : {A : Type 0} (f : Forest A) → forest_size (strip f) ≡ forest_size f
  size_strip empty = refl
  size_strip (node h bs rest) = ap suc (ap (λ n. n + forest_size (strip rest)) (sizes_strip bs) ∙ ap (λ n. sizes bs + n) (size_strip rest))

  sizes_strip : {A : Type 0} (bs : Bodies A) → sizes (strip_bodies bs) ≡ sizes bs
  sizes_strip no_bodies = refl
  sizes_strip (body f bs) = ap (λ n. n + sizes (strip_bodies bs)) (size_strip f) ∙ ap (λ n. forest_size f + n) (sizes_strip bs)

ends_strip : {A : Type 0} (k : ℕ) (bs : Bodies A) → ends_of k (strip_bodies bs) ≡ ends_of k bs
unfolding strip
ends_strip k no_bodies = refl
ends_strip k (body f bs) = ap (λ n. (k + n) ∷ ends_of (k + n) (strip_bodies bs)) (size_strip f) ∙ ap (λ l. (k + forest_size f) ∷ l) (ends_strip (k + forest_size f) bs)

mutual
  unfolding strip undressed undress

  laid_strip : {A : Type 0} (k : ℕ) (f : Forest A) → undress (laid k f) ≡ laid k (strip f)
  laid_strip k empty = refl
  laid_strip k (node h bs rest) =
      let here : undress (laid (k + 1 + sizes bs) rest) ≡ laid (k + 1 + sizes (strip_bodies bs)) (strip rest) = laid_strip (k + 1 + sizes bs) rest ∙ ap (λ n. laid (k + 1 + n) (strip rest)) (sym (sizes_strip bs)) in
      ap (λ l. undressed (record { head = h; ends = ends_of (k + 1) bs }) ∷ l)
      (map-append undressed (laid_bodies (k + 1) bs) (laid (k + 1 + sizes bs) rest) ∙ ap (λ l. l ++ undress (laid (k + 1 + sizes bs) rest)) (laid_bodies_strip (k + 1) bs) ∙ ap (λ l. laid_bodies (k + 1) (strip_bodies bs) ++ l) here)
      ∙ ap (λ (es : List ℕ). with_ends es ∷ (laid_bodies (k + 1) (strip_bodies bs) ++ laid (k + 1 + sizes (strip_bodies bs)) (strip rest))) (sym (ends_strip (k + 1) bs))

  laid_bodies_strip : {A : Type 0} (k : ℕ) (bs : Bodies A) → undress (laid_bodies k bs) ≡ laid_bodies k (strip_bodies bs)
  laid_bodies_strip k no_bodies = refl
  laid_bodies_strip k (body f bs) =
      let here : undress (laid_bodies (k + forest_size f) bs) ≡ laid_bodies (k + forest_size (strip f)) (strip_bodies bs) = laid_bodies_strip (k + forest_size f) bs ∙ ap (λ n. laid_bodies (k + n) (strip_bodies bs)) (sym (size_strip f)) in
      map-append undressed (laid k f) (laid_bodies (k + forest_size f) bs) ∙ ap (λ l. l ++ undress (laid_bodies (k + forest_size f) bs)) (laid_strip k f) ∙ ap (λ l. laid k (strip f) ++ l) here

ends_undressed : {A : Type 0} (xs : List (Flat A)) → ends_in (undress xs) ≡ ends_in xs
unfolding undressed undress
ends_undressed [] = refl
ends_undressed (x ∷ xs) = ap (λ l. x.ends ∷ l) (ends_undressed xs)

pub laid_nested : {A : Type 0} (f : Forest A) → AreNested (ends_in (laid 0 f))
unfolding AreNested
laid_nested f =
    ap (λ l. ends_in (laid 0 (tree_of l))) (with_ends_in (laid 0 f) ∙ laid_strip 0 f)
    ∙ ap (λ t. ends_in (laid 0 t)) (tree_of-laid (strip f))
    ∙ ap ends_in (sym (laid_strip 0 f))
    ∙ ends_undressed (laid 0 f)

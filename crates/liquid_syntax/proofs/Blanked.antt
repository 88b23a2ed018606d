-- A template whose blanks are emptied.
use Rattle.std.proofs.Common.{◌≡◌, ℕ, ◌+◌, false, List, [], ◌∷◌, ◌++◌, length, Option, Some, None, option_map, refl, sym, ap, ◌∙◌, subst, arith, append_assoc}
use Rattle.std.proofs.lemmas.List.{append-nil, drop_more, length-map}
use Rattle.std.proofs.lemmas.Option.{get_or_from_slice_get, slice_get-map, slice_get_within}
use Rattle.std.specs.Prelude.{drop, slice_get}
use Rattle.liquid_syntax.specs.Blanks.{without_blanks}
use Rattle.liquid_syntax.specs.Flats.{Maker, ends_of_nodes, flat_of, flats, nodes_of, bodies_of}
use Rattle.liquid_syntax.specs.Forest.{Forest, Bodies, empty, node, no_bodies, body, forest_size, sizes}
use Rattle.liquid_syntax.specs.Laid.{Flat, IsLaidOut, StandBodies, last_end, ends_of, laid, laid_bodies}
use Rattle.liquid_syntax.specs.Laid as places
use Rattle.liquid_syntax.specs.Nested.{AreNested, ends_in}
use Rattle.liquid_syntax.specs.Templates.{template_nodes, tree_of}
use Rattle.liquid_syntax.specs.declared.node.Node.{Node}
use Rattle.liquid_syntax.specs.declared.template.Template.{Template}
use Rattle.liquid_syntax.specs.inside.BlankNodes.{own_flat, own_flats, tidied_all}
use Rattle.liquid_syntax.proofs.BlankTrees.{IsFit, AreFit, made, made_bodies, tidy_is}
use Rattle.liquid_syntax.proofs.Dressed.{nested_laid, laid_nested}
use Rattle.liquid_syntax.proofs.Round.{tree_of-laid, whole-stands}
use Rattle.liquid_syntax.proofs.Tidied.{all_plain, bodies_size, stands_size}
use Rattle.liquid_syntax.proofs.Whole.{ends_seen, tree_is}

-- ---- a list is that of the forest that stands in it

read_at : {A : Type 0} (ns : List (Flat A)) (k : ℕ) (x : Flat A) → slice_get ns k ≡ Some x → drop k ns ≡ x ∷ drop (k + 1) ns
read_at ns k x is = drop_more ns k x (slice_get_within ns k x is) ∙ ap (λ y. y ∷ drop (k + 1) ns) (get_or_from_slice_get ns k x x is)

ends_there : {A : Type 0} (ns : List (Flat A)) (k : ℕ) (es : List ℕ) (bs : Bodies A) → StandBodies ns k es bs → es ≡ ends_of k bs
ends_there ns k es no_bodies s = s
ends_there ns k es (body f bs) (e, rest, eq, here, more) =
    let size : e ≡ k + forest_size f = stands_size ns k f e here in
    eq ∙ ap (λ l. e ∷ l) (ends_there ns e rest bs more) ∙ ap (λ n. n ∷ ends_of n bs) size

mutual
  part_laid : {A : Type 0} (ns : List (Flat A)) (k : ℕ) (f : Forest A) (to : ℕ) → IsLaidOut ns k f to → drop k ns ≡ laid k f ++ drop to ns
  part_laid ns k empty to s = ap (λ n. drop n ns) s
  part_laid ns k (node h bs rest) to (x, is, eq, inner, after) =
      let size : last_end (k + 1) x.ends ≡ k + 1 + sizes bs = bodies_size ns (k + 1) x.ends bs inner in
      let shape : x ≡ record { head = h; ends = ends_of (k + 1) bs } = (λ i. record { head = eq i; ends = ends_there ns (k + 1) x.ends bs inner i }) in
      read_at ns k x is
      ∙ ap (λ y. y ∷ drop (k + 1) ns) shape
      ∙ ap (λ l. record { head = h; ends = ends_of (k + 1) bs } ∷ l) (
      bodies_laid ns (k + 1) x.ends bs inner
      ∙ ap (λ l. laid_bodies (k + 1) bs ++ l) (part_laid ns (last_end (k + 1) x.ends) rest to after ∙ ap (λ n. laid n rest ++ drop to ns) size)
      ∙ sym (append_assoc (laid_bodies (k + 1) bs) (laid (k + 1 + sizes bs) rest) (drop to ns)))

  bodies_laid : {A : Type 0} (ns : List (Flat A)) (k : ℕ) (es : List ℕ) (bs : Bodies A) → StandBodies ns k es bs → drop k ns ≡ laid_bodies k bs ++ drop (last_end k es) ns
  bodies_laid ns k es no_bodies s = ap (λ l. drop (last_end k l) ns) (sym s)
  bodies_laid ns k es (body f bs) (e, rest, eq, here, more) =
      let size : e ≡ k + forest_size f = stands_size ns k f e here in
      part_laid ns k f e here
      ∙ ap (λ l. laid k f ++ l) (bodies_laid ns e rest bs more ∙ ap (λ n. laid_bodies n bs ++ drop (last_end e rest) ns) size)
      ∙ sym (append_assoc (laid k f) (laid_bodies (k + forest_size f) bs) (drop (last_end e rest) ns))
      ∙ ap (λ l. (laid k f ++ laid_bodies (k + forest_size f) bs) ++ drop (last_end k l) ns) (sym eq)

none_left : {X : Type 0} (xs : List X) → drop (length xs) xs ≡ []
none_left [] = refl
none_left (x ∷ xs) = none_left xs

whole_laid : {A : Type 0} (ns : List (Flat A)) (f : Forest A) → IsLaidOut ns 0 f (length ns) → laid 0 f ≡ ns
whole_laid ns f s = sym (part_laid ns 0 f (length ns) s ∙ ap (λ l. laid 0 f ++ l) (none_left ns) ∙ append-nil (laid 0 f))

-- ---- the nodes as they are

owned : (ns : List Node) (k : ℕ) (x : Flat Node) → slice_get (own_flats ns) k ≡ Some x → (n : Node) × (slice_get ns k ≡ Some n) × (x ≡ own_flat n)
owned ns k x is = on (slice_get ns k) refl
  where
    on : (o : Option Node) → slice_get ns k ≡ o → (n : Node) × (slice_get ns k ≡ Some n) × (x ≡ own_flat n)
    on None e = let none : Some x ≡ None = sym is ∙ slice_get-map own_flat ns k ∙ ap (option_map own_flat) e in absurd cc
    on (Some n) e = let same : Some x ≡ Some (own_flat n) = sym is ∙ slice_get-map own_flat ns k ∙ ap (option_map own_flat) e in (n, e, cc)

bodies_count : (ns : List (Flat Node)) (k : ℕ) (es : List ℕ) (bs : Bodies Node) → StandBodies ns k es bs → length (bodies_of (made_bodies bs)) ≡ length es
bodies_count ns k es no_bodies s = ap length (sym s)
bodies_count ns k es (body f bs) (e, rest, eq, here, more) = let c = bodies_count ns e rest bs more in subst (λ l. length (bodies_of (made_bodies (body f bs))) ≡ length l) (sym eq) (omega (arith, c))

mutual
  fits : (ns : List Node) (k : ℕ) (f : Forest Node) (to : ℕ) → IsLaidOut (own_flats ns) k f to → IsFit f
  fits ns k empty to s = tt
  fits ns k (node h bs rest) to (x, is, eq, inner, after) =
      let (n, there, same) = owned ns k x is in
      let ends : x.ends ≡ (flat_of h).ends = ap (λ y. y.ends) same ∙ ap (λ m. (flat_of m).ends) (sym (ap (λ y. y.head) same) ∙ eq) in
      (bodies_count (own_flats ns) (k + 1) x.ends bs inner ∙ ap length ends, all_fit ns (k + 1) x.ends bs inner, fits ns (last_end (k + 1) x.ends) rest to after)

  all_fit : (ns : List Node) (k : ℕ) (es : List ℕ) (bs : Bodies Node) → StandBodies (own_flats ns) k es bs → AreFit bs
  all_fit ns k es no_bodies s = tt
  all_fit ns k es (body f bs) (e, rest, eq, here, more) = (fits ns k f e here, all_fit ns e rest bs more)

mutual
  made_stands : (ns : List Node) (k : ℕ) (f : Forest Node) (to : ℕ) → IsLaidOut (own_flats ns) k f to → IsLaidOut (flats ns) k (made f) to
  made_stands ns k empty to s = s
  made_stands ns k (node h bs rest) to (x, is, eq, inner, after) =
      let (n, there, same) = owned ns k x is in
      let head : n ≡ h = sym (ap (λ y. y.head) same) ∙ eq in
      let ends : x.ends ≡ (flat_of n).ends = ap (λ y. y.ends) same in (
        flat_of n,
        slice_get-map flat_of ns k ∙ ap (option_map flat_of) there,
        ap (λ m. (flat_of m).head) head,
        subst (λ l. StandBodies (flats ns) (k + 1) l (made_bodies bs)) ends (made_bodies_stand ns (k + 1) x.ends bs inner),
        subst (λ l. IsLaidOut (flats ns) (last_end (k + 1) l) (made rest) to) ends (made_stands ns (last_end (k + 1) x.ends) rest to after),
      )

  made_bodies_stand : (ns : List Node) (k : ℕ) (es : List ℕ) (bs : Bodies Node) → StandBodies (own_flats ns) k es bs → StandBodies (flats ns) k es (made_bodies bs)
  made_bodies_stand ns k es no_bodies s = s
  made_bodies_stand ns k es (body f bs) (e, rest, eq, here, more) = (e, rest, eq, made_stands ns k f e here, made_bodies_stand ns e rest bs more)

ends_of_owns : (ns : List Node) → ends_in (own_flats ns) ≡ ends_of_nodes ns
ends_of_owns [] = refl
ends_of_owns (n ∷ ns) = ap (λ l. (flat_of n).ends ∷ l) (ends_of_owns ns)

-- ---- templates

pub own_forest : Template → Forest Node
own_forest t = places.tree_of (own_flats (template_nodes t))

pub own_stands : (t : Template) → IsLaidOut (own_flats (template_nodes t)) 0 (own_forest t) (length (template_nodes t))
unfolding own_forest
own_stands t =
    let ns = template_nodes t in
    subst (IsLaidOut (own_flats ns) 0 (places.tree_of (own_flats ns))) (length-map ns own_flat) (whole-stands (own_flats ns) (places.tree_of (own_flats ns)) (nested_laid (own_flats ns) (subst AreNested (sym (ends_of_owns ns)) t.nested)))

made_tree : (ns : List Node) (f : Forest Maker) → IsLaidOut (flats ns) 0 f (length ns) → places.tree_of (flats ns) ≡ f
made_tree ns f s = ap places.tree_of (sym (whole_laid (flats ns) f (subst (IsLaidOut (flats ns) 0 f) (sym (length-map ns flat_of)) s))) ∙ tree_of-laid f

-- a list in which the blanks are emptied nests
pub emptied_nests : (us : List Node) (f : Forest Maker) → IsLaidOut (flats us) 0 f (length us) → AreNested (ends_of_nodes us)
emptied_nests us f s =
    subst AreNested (ap ends_in (whole_laid (flats us) f (subst (IsLaidOut (flats us) 0 f) (sym (length-map us flat_of)) s)) ∙ sym (ends_seen us)) (laid_nested f)

pub emptied_tree : (t new : Template) (us : List Node) → template_nodes new ≡ us → IsLaidOut (flats us) 0 (tidied_all false false (own_forest t)) (length us) → tree_of new ≡ without_blanks (tree_of t)
emptied_tree t new us is s =
    let ns = template_nodes t in
    let f = own_forest t in
    tree_is new ∙ ap (λ l. nodes_of (places.tree_of (flats l))) is ∙ ap nodes_of (made_tree us (tidied_all false false f) s ∙ all_plain false f) ∙ tidy_is false false f (fits ns 0 f (length ns) (own_stands t))
    ∙ ap (λ g. without_blanks (nodes_of g)) (sym (made_tree ns (made f) (made_stands ns 0 f (length ns) (own_stands t)))) ∙ ap without_blanks (sym (tree_is t))

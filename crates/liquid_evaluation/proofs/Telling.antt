-- Telling a visitor names, part after part.
use Rattle.std.proofs.Common.{◌≡◌, ℕ, suc, ◌+◌, ◌<◌, ◌≤◌, Bool, true, false, List, [], ◌∷◌, ◌++◌, length, drop, get_or, refl, sym, ap, subst, ◌∙◌, add-one, drop-cons}
use Rattle.std.proofs.lemmas.List.{drop_all}
use Rattle.liquid_model.specs.Texts.{Text}
use Rattle.liquid_evaluation.specs.Telling.{IsTelling}

-- ---- the names of a list, item after item

pub record IsEach {X : Type 0} (one : X → List Text) (all : List X → List Text) : Type 0 where
  pub none : all [] ≡ []
  pub more : (x : X) (xs : List X) → all (x ∷ xs) ≡ one x ++ all xs

next_item : {X : Type 0} (one : X → List Text) (all : List X → List Text) → IsEach one all → (xs : List X) (i : ℕ) (x : X) → x ≡ get_or xs i x → i < length xs → all (drop i xs) ≡ one x ++ all (drop (i + 1) xs)
next_item one all each xs i x is lt =
    let e : drop i xs ≡ x ∷ drop (i + 1) xs = rw add-one (drop-cons xs i x lt ∙ ap (λ y. y ∷ drop (suc i) xs) (sym is)) in
    ap all e ∙ each.more x (drop (i + 1) xs)

module _ {V : Type 0} {tells : V → List Text → Bool → V → Type 0} (telling : IsTelling tells) where
  -- the first part ended it
  pub ended : (u v : V) (xs ys zs : List Text) (b r : Bool) → tells u xs b v → b ≡ true → r ≡ true → zs ≡ xs ++ ys → tells u zs r v
  ended u v xs ys zs b r h is holds e = subst (λ l. tells u l r v) (sym e) (subst (λ s. tells u (xs ++ ys) s v) (sym holds) (telling.ends u v xs ys (subst (λ s. tells u xs s v) is h)))

  -- it visited the first part, and then another
  pub went_on : (u v w : V) (xs ys zs : List Text) (b r : Bool) → tells u xs b v → b ≡ false → tells v ys r w → zs ≡ xs ++ ys → tells u zs r w
  went_on u v w xs ys zs b r h is k e = subst (λ l. tells u l r w) (sym e) (telling.both u v w xs ys r (subst (λ s. tells u xs s v) is h) k)

  module _ {X : Type 0} {one : X → List Text} {all : List X → List Text} (each : IsEach one all) where
    -- what telling the items from a place on does is what telling all of them does
    abbrev pub Continues : V → List X → ℕ → V → Type 0
    Continues first xs i now = (r : Bool) (w : V) → tells now (all (drop i xs)) r w → tells first (all xs) r w

    pub item_ended : (first u v : V) (xs : List X) (i : ℕ) (x : X) (b : Bool) → Continues first xs i u → tells u (one x) b v → b ≡ true → x ≡ get_or xs i x → i < length xs → tells first (all xs) true v
    item_ended first u v xs i x b goes h holds is lt = goes true v (ended u v (one x) (all (drop (i + 1) xs)) _ b true h holds refl (next_item one all each xs i x is lt))

    pub item_visited : (first u v : V) (xs : List X) (i : ℕ) (x : X) (b : Bool) → Continues first xs i u → tells u (one x) b v → b ≡ false → x ≡ get_or xs i x → i < length xs → Continues first xs (i + 1) v
    item_visited first u v xs i x b goes h fails is lt r w k = goes r w (went_on u v w (one x) (all (drop (i + 1) xs)) _ b r h fails k (next_item one all each xs i x is lt))

    pub all_visited : (first u : V) (xs : List X) (i : ℕ) → Continues first xs i u → length xs ≤ i → tells first (all xs) false u
    all_visited first u xs i goes le = goes false u (subst (λ l. tells u l false u) (sym (ap all (drop_all i xs le) ∙ each.none)) (telling.none u))

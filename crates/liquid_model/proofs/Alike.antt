-- Values that are alike: with themselves, in what a use includes, member by member and item by item.
use Rattle.std.specs.Prelude.{◌≡◌, ℕ, zero, suc, ◌≤◌, nat_le, take, Bool, true, false, cond, ◌&&◌, T, length, List, [], ◌∷◌, Option, Some, None}
use mathlib.Core.Path.{refl, ap, subst}
use native.Mathlib.Omega.{arith}
use Rattle.std.proofs.Math.Facts.{leb_yes, yes_leb}
use Rattle.std.proofs.Math.Nat.{le-max_left, le-max_right}
use Rattle.liquid_model.specs.Texts.{Text, same_text, ◌else◌}
use Rattle.liquid_model.specs.Data.{Datum}
use Rattle.liquid_model.specs.Uses.{Use, nothing, everything, parts, Fields, no_fields, field, ItemUse, uncounted, up_to, shape_of, member, loop_items_of, Pairwise, PairwiseUpTo, Alike, AlikeFields, AlikeItems, use_in, use_at, use_of_items, is_everything, asks_whether, asks_items, reaches, further, present, includes, includes_fields, includes_items, joined_fields, join, join_turns, IncludedAlike, JoinedAlike}
use Rattle.liquid_model.proofs.Maps.{same_text_equal}

-- ---- tests

pub both_left : (a b : Bool) → T (a && b) → T a
both_left true b h = tt
both_left false b h = absurd h

pub both_right : (a b : Bool) → T (a && b) → T b
both_right true b h = h
both_right false b h = absurd h

-- ---- lists

pub pairwise_same : {A : Type 0} (R : A → A → Type 0) → ((x : A) → R x x) → (xs : List A) → Pairwise R xs xs
pairwise_same R r [] = tt
pairwise_same R r (x ∷ xs) = (r x, pairwise_same R r xs)

pub pairwise_more : {A : Type 0} (R S : A → A → Type 0) → ((x y : A) → R x y → S x y) → (xs ys : List A) → Pairwise R xs ys → Pairwise S xs ys
pairwise_more R S k [] [] h = tt
pairwise_more R S k [] (y ∷ ys) h = absurd h
pairwise_more R S k (x ∷ xs) [] h = absurd h
pairwise_more R S k (x ∷ xs) (y ∷ ys) h = (k x y h.0, pairwise_more R S k xs ys h.1)

pub pairwise_length : {A : Type 0} (R : A → A → Type 0) → (xs ys : List A) → Pairwise R xs ys → length xs ≡ length ys
pairwise_length R [] [] h = refl
pairwise_length R [] (y ∷ ys) h = absurd h
pairwise_length R (x ∷ xs) [] h = absurd h
pairwise_length R (x ∷ xs) (y ∷ ys) h = ap suc (pairwise_length R xs ys h.1)

-- ---- lists up to a limit

module _ {A : Type 0} (R : A → A → Type 0) where
  pub pairwise_first : (n : ℕ) (xs ys : List A) → Pairwise R xs ys → Pairwise R (take n xs) (take n ys)
  pairwise_first zero xs ys h = tt
  pairwise_first (suc n) [] [] h = tt
  pairwise_first (suc n) [] (y ∷ ys) h = absurd h
  pairwise_first (suc n) (x ∷ xs) [] h = absurd h
  pairwise_first (suc n) (x ∷ xs) (y ∷ ys) h = (h.0, pairwise_first n xs ys h.1)

  fewer : (m n : ℕ) → n ≤ m → (xs ys : List A) → Pairwise R (take m xs) (take m ys) → Pairwise R (take n xs) (take n ys)
  fewer m zero r xs ys h = tt
  fewer zero (suc n) r xs ys h = absurd (omega arith)
  fewer (suc m) (suc n) r [] [] h = tt
  fewer (suc m) (suc n) r [] (y ∷ ys) h = absurd h
  fewer (suc m) (suc n) r (x ∷ xs) [] h = absurd h
  fewer (suc m) (suc n) r (x ∷ xs) (y ∷ ys) h = (h.0, fewer m n (omega arith) xs ys h.1)

  pub up_to_same : ((x : A) → R x x) → (n : Option ℕ) (xs : List A) → PairwiseUpTo n R xs xs
  up_to_same r None xs = pairwise_same R r xs
  up_to_same r (Some n) xs = (refl, pairwise_same R r (take n xs))

  pub up_to_fewer : (m n : Option ℕ) (xs ys : List A) → T (reaches m n) → PairwiseUpTo m R xs ys → PairwiseUpTo n R xs ys
  up_to_fewer None None xs ys r h = h
  up_to_fewer None (Some n) xs ys r h = (ap (λ k. nat_le k 9223372036854775807) (pairwise_length R xs ys h), pairwise_first n xs ys h)
  up_to_fewer (Some m) None xs ys r h = absurd r
  up_to_fewer (Some m) (Some n) xs ys r h = (h.0, fewer m n (leb_yes r) xs ys h.1)

  -- of all items, so of those up to a limit
  pub up_to_all : (n : Option ℕ) (xs ys : List A) → Pairwise R xs ys → PairwiseUpTo n R xs ys
  up_to_all n xs ys h = up_to_fewer None n xs ys tt h

pub up_to_more : {A : Type 0} (R S : A → A → Type 0) → ((x y : A) → R x y → S x y) → (n : Option ℕ) (xs ys : List A) → PairwiseUpTo n R xs ys → PairwiseUpTo n S xs ys
up_to_more R S k None xs ys h = pairwise_more R S k xs ys h
up_to_more R S k (Some n) xs ys h = (h.0, pairwise_more R S k (take n xs) (take n ys) h.1)

further_left : (m n : Option ℕ) → T (reaches (further m n) m)
further_left None n = tt
further_left (Some m) None = tt
further_left (Some m) (Some n) = yes_leb (le-max_left m n)

further_right : (m n : Option ℕ) → T (reaches (further m n) n)
further_right None n = tt
further_right (Some m) None = tt
further_right (Some m) (Some n) = yes_leb (le-max_right m n)

abbrev pub AlikeLists : Use → List Datum → List Datum → Type 0
AlikeLists u = Pairwise (λ c d. Alike u (Some c) (Some d))

-- ---- the same value

mutual
  pub alike_same : (u : Use) (o : Option Datum) → Alike u o o
  alike_same nothing o = tt
  alike_same everything o = refl
  alike_same (parts members turns) o = (refl, (alike_same_fields members o, alike_same_items turns o))

  alike_same_fields : (members : Fields) (o : Option Datum) → AlikeFields members o o
  alike_same_fields no_fields o = tt
  alike_same_fields (field key u more) o = (alike_same u (member key o), alike_same_fields more o)

  alike_same_items : (turns : ItemUse) (o : Option Datum) → AlikeItems turns o o
  alike_same_items uncounted o = tt
  alike_same_items (up_to n u) o = up_to_same _ (λ d. alike_same u (Some d)) n (loop_items_of o)

pub alike_equal : (u : Use) (o p : Option Datum) → o ≡ p → Alike u o p
alike_equal u o p e = subst (λ q. Alike u o q) e (alike_same u o)

-- ---- parts

pub alike_shape : (u : Use) (o p : Option Datum) → T (asks_whether u) → Alike u o p → shape_of o ≡ shape_of p
alike_shape nothing o p h a = absurd h
alike_shape everything o p h a = ap shape_of a
alike_shape (parts members turns) o p h a = a.0

alike_in : (key : Text) (members : Fields) (o p : Option Datum) → AlikeFields members o p → Alike (use_in key members) (member key o) (member key p)
alike_in key no_fields o p a = tt
alike_in key (field k u more) o p a = at (same_text k key) (same_text_equal k key) (alike_in key more o p a.1)
  where
    at : (b : Bool) → (T b → k ≡ key) → Alike (use_in key more) (member key o) (member key p) → Alike (cond b u (use_in key more)) (member key o) (member key p)
    at true e rest = subst (λ q. Alike u (member q o) (member q p)) (e tt) a.0
    at false e rest = rest

pub alike_at : (key : Text) (u : Use) (o p : Option Datum) → Alike u o p → Alike (use_at key u) (member key o) (member key p)
alike_at key nothing o p a = tt
alike_at key everything o p a = ap (member key) a
alike_at key (parts members turns) o p a = alike_in key members o p a.1.0

pub alike_items : (n : Option ℕ) (u : Use) (o p : Option Datum) → T (asks_items n u) → Alike u o p → PairwiseUpTo n (λ d e. Alike (use_of_items u) (Some d) (Some e)) (loop_items_of o) (loop_items_of p)
alike_items n nothing o p h a = absurd h
alike_items n everything o p h a = subst (λ q. PairwiseUpTo n (λ d e. Some d ≡ Some e) (loop_items_of o) (loop_items_of q)) a (up_to_same _ (λ d. refl) n (loop_items_of o))
alike_items n (parts members uncounted) o p h a = absurd h
alike_items n (parts members (up_to m u)) o p h a = up_to_fewer _ m n (loop_items_of o) (loop_items_of p) h a.1.1

pub alike_everything : (u : Use) (o p : Option Datum) → T (is_everything u) → Alike u o p → o ≡ p
alike_everything nothing o p h a = absurd h
alike_everything everything o p h a = a
alike_everything (parts members turns) o p h a = absurd h

mutual
  pub alike_included : (v u : Use) (o p : Option Datum) → T (includes u v) → Alike u o p → Alike v o p
  alike_included nothing u o p h a = tt
  alike_included everything u o p h a = alike_everything u o p h a
  alike_included (parts members turns) u o p h a =
      let rest = both_right (asks_whether u) _ h in
      (alike_shape u o p (both_left (asks_whether u) _ h) a, (included_fields members u o p (both_left (includes_fields u members) _ rest) a, included_items turns u o p (both_right (includes_fields u members) _ rest) a))

  included_fields : (members : Fields) (u : Use) (o p : Option Datum) → T (includes_fields u members) → Alike u o p → AlikeFields members o p
  included_fields no_fields u o p h a = tt
  included_fields (field key v more) u o p h a =
      (alike_included v (use_at key u) (member key o) (member key p) (both_left (includes (use_at key u) v) _ h) (alike_at key u o p a), included_fields more u o p (both_right (includes (use_at key u) v) _ h) a)

  included_items : (turns : ItemUse) (u : Use) (o p : Option Datum) → T (includes_items u turns) → Alike u o p → AlikeItems turns o p
  included_items uncounted u o p h a = tt
  included_items (up_to n v) u o p h a =
      up_to_more _ _ (λ d e k. alike_included v (use_of_items u) (Some d) (Some e) (both_right (asks_items n u) _ h) k) n (loop_items_of o) (loop_items_of p) (alike_items n u o p (both_left (asks_items n u) _ h) a)

-- ---- uses together

fields_left : (members others : Fields) (o p : Option Datum) → AlikeFields (joined_fields members others) o p → AlikeFields members o p
fields_left no_fields others o p a = tt
fields_left (field key u more) others o p a = (a.0, fields_left more others o p a.1)

fields_right : (members others : Fields) (o p : Option Datum) → AlikeFields (joined_fields members others) o p → AlikeFields others o p
fields_right no_fields others o p a = a
fields_right (field key u more) others o p a = fields_right more others o p a.1

mutual
  pub join_left : (u v : Use) (o p : Option Datum) → Alike (join u v) o p → Alike u o p
  join_left nothing v o p a = tt
  join_left everything v o p a = a
  join_left (parts members turns) nothing o p a = a
  join_left (parts members turns) everything o p a = alike_equal (parts members turns) o p a
  join_left (parts members turns) (parts others more) o p a = (a.0, (fields_left members others o p a.1.0, turns_left turns more o p a.1.1))

  turns_left : (turns more : ItemUse) (o p : Option Datum) → AlikeItems (join_turns turns more) o p → AlikeItems turns o p
  turns_left uncounted more o p a = tt
  turns_left (up_to m u) uncounted o p a = a
  turns_left (up_to m u) (up_to n v) o p a = up_to_more _ _ (λ d e k. join_left u v (Some d) (Some e) k) m (loop_items_of o) (loop_items_of p)
      (up_to_fewer _ (further m n) m (loop_items_of o) (loop_items_of p) (further_left m n) a)

mutual
  pub join_right : (u v : Use) (o p : Option Datum) → Alike (join u v) o p → Alike v o p
  join_right nothing v o p a = a
  join_right everything v o p a = alike_equal v o p a
  join_right (parts members turns) nothing o p a = tt
  join_right (parts members turns) everything o p a = a
  join_right (parts members turns) (parts others more) o p a = (a.0, (fields_right members others o p a.1.0, turns_right turns more o p a.1.1))

  turns_right : (turns more : ItemUse) (o p : Option Datum) → AlikeItems (join_turns turns more) o p → AlikeItems more o p
  turns_right uncounted more o p a = a
  turns_right (up_to m u) uncounted o p a = tt
  turns_right (up_to m u) (up_to n v) o p a = up_to_more _ _ (λ d e k. join_right u v (Some d) (Some e) k) n (loop_items_of o) (loop_items_of p)
      (up_to_fewer _ (further m n) n (loop_items_of o) (loop_items_of p) (further_right m n) a)

pub included_alike : IncludedAlike
included_alike u v o p h a = alike_included v u o p h a

pub joined_alike : JoinedAlike
joined_alike u v o p a = (join_left u v o p a, join_right u v o p a)

-- ---- present

pub present_asks : (u : Use) → T (asks_whether (present u))
present_asks nothing = tt
present_asks everything = tt
present_asks (parts members turns) = tt

pub alike_present : (u : Use) (o p : Option Datum) → Alike (present u) o p → Alike u o p
alike_present nothing o p a = tt
alike_present everything o p a = a
alike_present (parts members turns) o p a = a

-- ---- the first of two

shape_else : (u : Use) (o p q r : Option Datum) → shape_of o ≡ shape_of p → Alike u o p → Alike u q r → Alike u (o else q) (p else r)
shape_else u None None q r e a b = b
shape_else u None (Some d) q r e a b = absurd cc
shape_else u (Some d) None q r e a b = absurd cc
shape_else u (Some c) (Some d) q r e a b = a

pub alike_else : (u : Use) (o p q r : Option Datum) → Alike u o p → Alike u q r → Alike u (o else q) (p else r)
alike_else nothing o p q r a b = tt
alike_else everything o p q r a b = shape_else everything o p q r (ap shape_of a) a b
alike_else (parts members turns) o p q r a b = shape_else (parts members turns) o p q r a.0 a b

-- A list that rises and keeps alike items in the order of another list is the stable sort of that list.
use Rattle.std.proofs.Common.{◌≡◌, ℕ, suc, ◌<◌, ◌≤◌, Bool, true, false, not, ◌&&◌, cond, List, [], ◌∷◌, length, get_or, map, ap, refl, sym, ◌∙◌, arith, if◌then◌else◌}
use Rattle.std.specs.Cmp.{IsStrictWeakOrder}
use Rattle.std.specs.List.{filter, list_all}
use Rattle.std.specs.List.Sorted.{ties, IsSortedBy, IsStableBy}
use Rattle.std.proofs.lemmas.List.Sorted.{sorted_far}
use Rattle.liquid_filters.specs.Sorting.{insert_in_order, sorted}

-- no item of the list is below x
abbrev pub NoneBelow : {X : Type 0} → (X → X → Bool) → X → List X → Type 0
NoneBelow lt x [] = Unit {0}
NoneBelow lt x (y ∷ ys) = (lt y x ≡ false) × NoneBelow lt x ys

abbrev pub Rises : {X : Type 0} → (X → X → Bool) → List X → Type 0
Rises lt [] = Unit {0}
Rises lt (y ∷ ys) = NoneBelow lt y ys × Rises lt ys

true_false : true ≡ false → ⊥
true_false h = cc

-- ---- facts about ties
not_self : {X : Type 0} (lt : X → X → Bool) (o : IsStrictWeakOrder lt) (x : X) (b : Bool) → lt x x ≡ b → lt x x ≡ false
not_self lt o x true e = o.one_way x x e
not_self lt o x false e = e

ties_self : {X : Type 0} (lt : X → X → Bool) (o : IsStrictWeakOrder lt) (x : X) → ties lt x x ≡ true
ties_self lt o x = let e = not_self lt o x (lt x x) refl in rw e refl

ties_parts : (a b : Bool) → (not a && not b) ≡ true → (a ≡ false) × (b ≡ false)
ties_parts true b h = cc
ties_parts false true h = cc
ties_parts false false h = (refl, refl)

ties_below : (a b : Bool) → a ≡ true → (not a && not b) ≡ false
ties_below true b h = refl
ties_below false b h = cc

-- y below z, and w not below z: y is below w
below_trans : {X : Type 0} (lt : X → X → Bool) (o : IsStrictWeakOrder lt) (y z w : X) (b : Bool) → lt y z ≡ true → lt w z ≡ false → lt y w ≡ b → lt y w ≡ true
below_trans lt o y z w true h k e = e
below_trans lt o y z w false h k e = absurd (true_false (sym h ∙ o.chain y w z e k))

none_ties : {X : Type 0} (lt : X → X → Bool) (o : IsStrictWeakOrder lt) (y z : X) (zs : List X) → lt y z ≡ true → NoneBelow lt z zs → filter (ties lt y) zs ≡ []
none_ties lt o y z [] h n = refl
none_ties lt o y z (w ∷ zs) h n =
    let e = ties_below (lt y w) (lt w y) (below_trans lt o y z w (lt y w) h n.0 refl) in
    ap (λ t. cond t (w ∷ filter (ties lt y) zs) (filter (ties lt y) zs)) e ∙ none_ties lt o y z zs h n.1

filter_at : {X : Type 0} (p : X → Bool) (x : X) (xs : List X) (b : Bool) → p x ≡ b → filter p (x ∷ xs) ≡ cond b (x ∷ filter p xs) (filter p xs)
filter_at p x xs b e = ap (λ t. cond t (x ∷ filter p xs) (filter p xs)) e

-- ---- two such lists are one
heads_differ : {X : Type 0} (lt : X → X → Bool) (o : IsStrictWeakOrder lt) (y z : X) (ys zs : List X) → lt y z ≡ true → NoneBelow lt z zs
    → filter (ties lt y) (y ∷ ys) ≡ filter (ties lt y) (z ∷ zs) → ⊥
heads_differ lt o y z ys zs h n e =
    let l = filter_at (ties lt y) y ys true (ties_self lt o y) in
    let r = filter_at (ties lt y) z zs false (ties_below (lt y z) (lt z y) h) ∙ none_ties lt o y z zs h n in
    let c : y ∷ filter (ties lt y) ys ≡ [] = sym l ∙ e ∙ r in cc

tails_same : {X : Type 0} (p : X → Bool) (y z : X) (ys zs : List X) (b : Bool) → y ≡ z → p y ≡ b → filter p (y ∷ ys) ≡ filter p (z ∷ zs) → filter p ys ≡ filter p zs
tails_same p y z ys zs true s e h =
    let l = filter_at p y ys true e in
    let r = filter_at p z zs true (ap p (sym s) ∙ e) in
    let c : y ∷ filter p ys ≡ z ∷ filter p zs = sym l ∙ h ∙ r in cc
tails_same p y z ys zs false s e h =
    let l = filter_at p y ys false e in
    let r = filter_at p z zs false (ap p (sym s) ∙ e) in sym l ∙ h ∙ r

heads_same : {X : Type 0} (lt : X → X → Bool) (o : IsStrictWeakOrder lt) (y z : X) (ys zs : List X) → lt y z ≡ false → lt z y ≡ false
    → filter (ties lt y) (y ∷ ys) ≡ filter (ties lt y) (z ∷ zs) → y ≡ z
heads_same lt o y z ys zs a b e =
    let l = filter_at (ties lt y) y ys true (ties_self lt o y) in
    let t : ties lt y z ≡ true = rw (a, b) refl in
    let r = filter_at (ties lt y) z zs true t in
    let c : y ∷ filter (ties lt y) ys ≡ z ∷ filter (ties lt y) zs = sym l ∙ e ∙ r in cc

heads : {X : Type 0} (lt : X → X → Bool) (o : IsStrictWeakOrder lt) (y z : X) (ys zs : List X) (a b : Bool) → lt y z ≡ a → lt z y ≡ b → NoneBelow lt y ys → NoneBelow lt z zs
    → ((x : X) → filter (ties lt x) (y ∷ ys) ≡ filter (ties lt x) (z ∷ zs)) → y ≡ z
heads lt o y z ys zs true b ea eb ny nz h = absurd (heads_differ lt o y z ys zs ea nz (h y))
heads lt o y z ys zs false true ea eb ny nz h = absurd (heads_differ lt o z y zs ys eb ny (sym (h z)))
heads lt o y z ys zs false false ea eb ny nz h = heads_same lt o y z ys zs ea eb (h y)

pub one_order : {X : Type 0} (lt : X → X → Bool) (o : IsStrictWeakOrder lt) (ys zs : List X) → Rises lt ys → Rises lt zs
    → ((x : X) → filter (ties lt x) ys ≡ filter (ties lt x) zs) → ys ≡ zs
one_order lt o [] [] ry rz h = refl
one_order lt o [] (z ∷ zs) ry rz h = let c : [] ≡ z ∷ filter (ties lt z) zs = h z ∙ filter_at (ties lt z) z zs true (ties_self lt o z) in cc
one_order lt o (y ∷ ys) [] ry rz h = let c : y ∷ filter (ties lt y) ys ≡ [] = sym (filter_at (ties lt y) y ys true (ties_self lt o y)) ∙ h y in cc
one_order lt o (y ∷ ys) (z ∷ zs) ry rz h =
    let s = heads lt o y z ys zs (lt y z) (lt z y) refl refl ry.0 rz.0 h in
    let t = one_order lt o ys zs ry.1 rz.1 (λ x. tails_same (ties lt x) y z ys zs (ties lt x y) s refl (h x)) in
    ap (λ w. w ∷ ys) s ∙ ap (λ w. z ∷ w) t

-- ---- the function is such a list
none_either : {X : Type 0} (lt : X → X → Bool) (v x y : X) (ys : List X) (t : Bool) → lt x v ≡ false → NoneBelow lt v (y ∷ ys) → NoneBelow lt v (insert_in_order lt x ys)
    → NoneBelow lt v (if t then y ∷ insert_in_order lt x ys else x ∷ y ∷ ys)
none_either lt v x y ys true h n m = (n.0, m)
none_either lt v x y ys false h n m = (h, n)

none_more : {X : Type 0} (lt : X → X → Bool) (v x : X) (ys : List X) → lt x v ≡ false → NoneBelow lt v ys → NoneBelow lt v (insert_in_order lt x ys)
none_more lt v x [] h n = (h, tt)
none_more lt v x (y ∷ ys) h n = none_either lt v x y ys (lt y x) h n (none_more lt v x ys h n.1)

pub none_through : {X : Type 0} (lt : X → X → Bool) (o : IsStrictWeakOrder lt) (x y : X) (ys : List X) → lt y x ≡ false → NoneBelow lt y ys → NoneBelow lt x ys
none_through lt o x y [] h n = tt
none_through lt o x y (w ∷ ys) h n = (o.chain w y x n.0 h, none_through lt o x y ys h n.1)

rises_either : {X : Type 0} (lt : X → X → Bool) (o : IsStrictWeakOrder lt) (x y : X) (ys : List X) (t : Bool) → lt y x ≡ t → Rises lt (y ∷ ys) → Rises lt (insert_in_order lt x ys)
    → Rises lt (if t then y ∷ insert_in_order lt x ys else x ∷ y ∷ ys)
rises_either lt o x y ys true e r m = (none_more lt y x ys (o.one_way y x e) r.0, m)
rises_either lt o x y ys false e r m = ((e, none_through lt o x y ys e r.0), r)

place_rises : {X : Type 0} (lt : X → X → Bool) (o : IsStrictWeakOrder lt) (x : X) (ys : List X) → Rises lt ys → Rises lt (insert_in_order lt x ys)
place_rises lt o x [] r = (tt, tt)
place_rises lt o x (y ∷ ys) r = rises_either lt o x y ys (lt y x) refl r (place_rises lt o x ys r.1)

pub sorted_rises : {X : Type 0} (lt : X → X → Bool) (o : IsStrictWeakOrder lt) (xs : List X) → Rises lt (sorted lt xs)
sorted_rises lt o [] = tt
sorted_rises lt o (x ∷ xs) = place_rises lt o x (sorted lt xs) (sorted_rises lt o xs)

-- a test that never holds of two items of which one is below the other
abbrev pub TellsApart : {X : Type 0} → (X → X → Bool) → (X → Bool) → Type 0
TellsApart {X} lt p = (x y : X) → lt y x ≡ true → p x ≡ true → p y ≡ true → ⊥

-- where a test does not hold of both, the order of the two does not matter
swapped : {X : Type 0} (p : X → Bool) (x y : X) (zs : List X) (a b : Bool) → p x ≡ a → p y ≡ b → (a ≡ true → b ≡ true → ⊥) → filter p (y ∷ x ∷ zs) ≡ filter p (x ∷ y ∷ zs)
swapped p x y zs true true ex ey h = absurd (h refl refl)
swapped p x y zs true false ex ey h = rw (ex, ey) refl
swapped p x y zs false true ex ey h = rw (ex, ey) refl
swapped p x y zs false false ex ey h = rw (ex, ey) refl

keeps_either : {X : Type 0} (lt : X → X → Bool) (p : X → Bool) (apart : TellsApart lt p) (x y : X) (ys : List X) (t : Bool) → lt y x ≡ t
    → filter p (insert_in_order lt x ys) ≡ filter p (x ∷ ys) → filter p (if t then y ∷ insert_in_order lt x ys else x ∷ y ∷ ys) ≡ filter p (x ∷ y ∷ ys)
keeps_either lt p apart x y ys true e m =
    ap (λ t. cond (p y) (y ∷ t) t) m ∙ swapped p x y ys (p x) (p y) refl refl (λ a b. apart x y e a b)
keeps_either lt p apart x y ys false e m = refl

place_keeps : {X : Type 0} (lt : X → X → Bool) (p : X → Bool) (apart : TellsApart lt p) (x : X) (ys : List X) → filter p (insert_in_order lt x ys) ≡ filter p (x ∷ ys)
place_keeps lt p apart x [] = refl
place_keeps lt p apart x (y ∷ ys) = keeps_either lt p apart x y ys (lt y x) refl (place_keeps lt p apart x ys)

-- the items of which such a test holds keep their order
pub sorted_keeps : {X : Type 0} (lt : X → X → Bool) (p : X → Bool) (apart : TellsApart lt p) (xs : List X) → filter p (sorted lt xs) ≡ filter p xs
sorted_keeps lt p apart [] = refl
sorted_keeps lt p apart (x ∷ xs) =
    place_keeps lt p apart x (sorted lt xs) ∙ ap (λ t. cond (p x) (x ∷ t) t) (sorted_keeps lt p apart xs)

ties_apart : {X : Type 0} (lt : X → X → Bool) (o : IsStrictWeakOrder lt) (w : X) → TellsApart lt (ties lt w)
ties_apart lt o w x y h a b =
    let p = ties_parts (lt w x) (lt x w) a in
    let q = ties_parts (lt w y) (lt y w) b in
    true_false (sym h ∙ o.chain y w x q.1 p.0)

pub sorted_stable : {X : Type 0} (lt : X → X → Bool) (o : IsStrictWeakOrder lt) (xs : List X) → IsStableBy lt xs (sorted lt xs)
sorted_stable lt o xs w = sorted_keeps lt (ties lt w) (ties_apart lt o w) xs

-- ---- from std's words
none_from : {X : Type 0} (lt : X → X → Bool) (x : X) (ys : List X) → ((k : ℕ) (d : X) → k < length ys → lt (get_or ys k d) x ≡ false) → NoneBelow lt x ys
none_from lt x [] h = tt
none_from lt x (y ∷ ys) h = (h 0 x (omega arith), none_from lt x ys (λ k d m. h (suc k) d (omega arith)))

rises_from : {X : Type 0} (lt : X → X → Bool) (ys : List X) → ((i j : ℕ) (d : X) → i ≤ j → j < length ys → lt (get_or ys j d) (get_or ys i d) ≡ false) → Rises lt ys
rises_from lt [] h = tt
rises_from lt (y ∷ ys) h =
    (none_from lt y ys (λ k d m. h 0 (suc k) d (omega arith) (omega arith)), rises_from lt ys (λ i j d a b. h (suc i) (suc j) d (omega arith) (omega arith)))

-- what a stable sort leaves is the sorted list
pub sort_is : {X : Type 0} (lt : X → X → Bool) (o : IsStrictWeakOrder lt) (xs ys : List X) → IsSortedBy lt ys → IsStableBy lt xs ys → ys ≡ sorted lt xs
sort_is lt o xs ys up stable =
    one_order lt o ys (sorted lt xs) (rises_from lt ys (λ i j d a b. sorted_far lt o ys up i j d a b)) (sorted_rises lt o xs) (λ x. stable x ∙ sym (sorted_stable lt o xs x))

-- a second sort changes nothing
pub sorted_twice : {X : Type 0} (lt : X → X → Bool) (o : IsStrictWeakOrder lt) (xs : List X) → sorted lt (sorted lt xs) ≡ sorted lt xs
sorted_twice lt o xs =
    sym (one_order lt o (sorted lt xs) (sorted lt (sorted lt xs)) (sorted_rises lt o xs) (sorted_rises lt o (sorted lt xs)) (λ x. sym (sorted_stable lt o (sorted lt xs) x)))

-- ---- a sort and a function on the items
map_either : {X Y : Type 0} (f : X → Y) (x y : X) (ys zs : List X) (us : List Y) (t : Bool) → map f zs ≡ us
    → map f (if t then y ∷ zs else x ∷ y ∷ ys) ≡ (if t then f y ∷ us else f x ∷ f y ∷ map f ys)
map_either f x y ys zs us true e = ap (λ l. f y ∷ l) e
map_either f x y ys zs us false e = refl

map_place : {X Y : Type 0} (f : X → Y) (lt : Y → Y → Bool) (x : X) (ys : List X) → map f (insert_in_order (λ a b. lt (f a) (f b)) x ys) ≡ insert_in_order lt (f x) (map f ys)
map_place f lt x [] = refl
map_place f lt x (y ∷ ys) = map_either f x y ys _ _ (lt (f y) (f x)) (map_place f lt x ys)

pub map_sorted : {X Y : Type 0} (f : X → Y) (lt : Y → Y → Bool) (xs : List X) → map f (sorted (λ a b. lt (f a) (f b)) xs) ≡ sorted lt (map f xs)
map_sorted f lt [] = refl
map_sorted f lt (x ∷ xs) = map_place f lt x _ ∙ ap (insert_in_order lt (f x)) (map_sorted f lt xs)

-- a sort has the items of its list
and_swapped : (a b c : Bool) → (a && (b && c)) ≡ (b && (a && c))
and_swapped true b c = refl
and_swapped false true c = refl
and_swapped false false c = refl

all_either : {X : Type 0} (p : X → Bool) (x y : X) (ys zs : List X) (t : Bool) → list_all p zs ≡ list_all p (x ∷ ys)
    → list_all p (if t then y ∷ zs else x ∷ y ∷ ys) ≡ list_all p (x ∷ y ∷ ys)
all_either p x y ys zs true e = ap (λ b. p y && b) e ∙ and_swapped (p y) (p x) (list_all p ys)
all_either p x y ys zs false e = refl

all_placed : {X : Type 0} (lt : X → X → Bool) (p : X → Bool) (x : X) (ys : List X) → list_all p (insert_in_order lt x ys) ≡ list_all p (x ∷ ys)
all_placed lt p x [] = refl
all_placed lt p x (y ∷ ys) = all_either p x y ys _ (lt y x) (all_placed lt p x ys)

pub all_sorted : {X : Type 0} (lt : X → X → Bool) (p : X → Bool) (xs : List X) → list_all p (sorted lt xs) ≡ list_all p xs
all_sorted lt p [] = refl
all_sorted lt p (x ∷ xs) = all_placed lt p x (sorted lt xs) ∙ ap (λ b. p x && b) (all_sorted lt p xs)

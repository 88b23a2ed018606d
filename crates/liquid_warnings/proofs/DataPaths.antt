-- Where a path in data comes to a map without its next key.
use Rattle.std.proofs.Common.{◌≡◌, ◌⊎◌, Bool, true, false, cond, List, [], ◌∷◌, ◌++◌, length, Option, Some, None, String, Global, codes, string_bytes, ap, refl, sym, ◌∙◌, inl, inr}
use Rattle.std.specs.Prelude.{bytes_eq, is_some}
use mathlib.Core.Path.{subst}
use Rattle.liquid_model.specs.Data.{Datum, nil, truth, number, text, object, array, Items, no_items, item, Pairs}
use Rattle.liquid_model.specs.Find.{value_at}
use Rattle.liquid_warnings.specs.DataPaths.{Lacking, first_lack, in_items, in_member, lack_at, of_each_item, of_found, or_later, values_along}
use Rattle.liquid_warnings.specs.Laws.{FirstLackIsLack, IsElementOf, IsLack, NothingElseLacks}
use Rattle.liquid_warnings.specs.declared.data_path.Step.{Step}
use Rattle.liquid_warnings.specs.declared.data_path.Step.TheVariants.{Key, Each}

among_front : (d : Datum) (xs ys : List Datum) → IsElementOf d xs → IsElementOf d (xs ++ ys)
among_front d [] ys a = absurd a
among_front d (x ∷ xs) ys (inl e) = inl e
among_front d (x ∷ xs) ys (inr a) = inr (among_front d xs ys a)

among_back : (d : Datum) (xs ys : List Datum) → IsElementOf d ys → IsElementOf d (xs ++ ys)
among_back d [] ys a = a
among_back d (x ∷ xs) ys a = inr (among_back d xs ys a)

among_either : (d : Datum) (xs ys : List Datum) → IsElementOf d (xs ++ ys) → IsElementOf d xs ⊎ IsElementOf d ys
among_either d [] ys a = inr a
among_either d (x ∷ xs) ys (inl e) = inl (inl e)
among_either d (x ∷ xs) ys (inr a) = later (among_either d xs ys a)
  where
    later : IsElementOf d xs ⊎ IsElementOf d ys → ((d ≡ x) ⊎ IsElementOf d xs) ⊎ IsElementOf d ys
    later (inl b) = inl (inr b)
    later (inr b) = inr b

-- ---- the first lack is a lack

abbrev FirstIsLack : List Step → Type 0
FirstIsLack p = (d : Datum) (l : Lacking) → first_lack p d ≡ Some l → IsLack p d l

some_same : (x y : Lacking) → Some x ≡ Some y → x ≡ y
some_same x y e = ap get e
  where
    get : Option Lacking → Lacking
    get (Some z) = z
    get None = x

-- the map itself hasn't the key
lack_here : (k : String Global) (p : List Step) (ps : Pairs) (l : Lacking) (b : Bool) → value_at (string_bytes k) ps ≡ None
    → cond b None (Some (record { left = length p; among = ps })) ≡ Some l → IsLack (Key k ∷ p) (object ps) l
lack_here k p ps l true none e = absurd cc
lack_here k p ps l false none e =
    let same = some_same (record { left = length p; among = ps }) l e in
    subst (IsLack (Key k ∷ p) (object ps)) same (record {
      before = [];
      key = k;
      after = p;
      path_is = refl;
      left_is = refl;
      on_the_way = inl refl;
      none_there = none;
    })

lack_member : (k : String Global) (p : List Step) (ps : Pairs) (l : Lacking) (o : Option Datum) → FirstIsLack p → value_at (string_bytes k) ps ≡ o
    → in_member (first_lack p) (lack_at (string_bytes k) (length p) ps) o ≡ Some l → IsLack (Key k ∷ p) (object ps) l
lack_member k p ps l None below found e = lack_here k p ps l (bytes_eq (string_bytes k) (codes "size")) found e
lack_member k p ps l (Some v) below found e =
    let r = below v l e in record {
      before = Key k ∷ r.before;
      key = r.key;
      after = r.after;
      path_is = ap (λ q. Key k ∷ q) r.path_is;
      left_is = r.left_is;
      on_the_way = subst (λ o. IsElementOf (object l.among) (of_found (values_along r.before) o)) (sym found) r.on_the_way;
      none_there = r.none_there;
    }

abbrev InItems : List Step → Items → Lacking → Type 0
InItems p ds l = (v : Datum) × IsLack p v l × ((f : Datum → List Datum) (x : Datum) → IsElementOf x (f v) → IsElementOf x (of_each_item f ds))

lack_first : (p : List Step) (d : Datum) (ds : Items) (l : Lacking) (o : Option Lacking) → FirstIsLack p
    → (in_items (first_lack p) ds ≡ Some l → InItems p ds l) → first_lack p d ≡ o
    → or_later o (in_items (first_lack p) ds) ≡ Some l → InItems p (item d ds) l
lack_first p d ds l (Some x) below later is e = (d, below d l (is ∙ e), (λ f y a. among_front y (f d) (of_each_item f ds) a))
lack_first p d ds l None below later is e =
    let r = later e in
    (r.0, r.1, (λ f y a. among_back y (f d) (of_each_item f ds) (r.2 f y a)))

lack_items : (p : List Step) (ds : Items) (l : Lacking) → FirstIsLack p → in_items (first_lack p) ds ≡ Some l → InItems p ds l
lack_items p no_items l below e = absurd cc
lack_items p (item d ds) l below e = lack_first p d ds l (first_lack p d) below (lack_items p ds l below) refl e

pub first_lack_is_lack : FirstLackIsLack
first_lack_is_lack [] d l e = absurd cc
first_lack_is_lack (Key k ∷ p) (object ps) l e = lack_member k p ps l (value_at (string_bytes k) ps) (first_lack_is_lack p) refl e
first_lack_is_lack (Key k ∷ p) nil l e = absurd cc
first_lack_is_lack (Key k ∷ p) (truth b) l e = absurd cc
first_lack_is_lack (Key k ∷ p) (number z) l e = absurd cc
first_lack_is_lack (Key k ∷ p) (text s) l e = absurd cc
first_lack_is_lack (Key k ∷ p) (array ds) l e = absurd cc
first_lack_is_lack (Each ∷ p) (array ds) l e =
    let r = lack_items p ds l (first_lack_is_lack p) e in record {
      before = Each ∷ r.1.before;
      key = r.1.key;
      after = r.1.after;
      path_is = ap (λ q. Each ∷ q) r.1.path_is;
      left_is = r.1.left_is;
      on_the_way = r.2 (values_along r.1.before) (object l.among) r.1.on_the_way;
      none_there = r.1.none_there;
    }
first_lack_is_lack (Each ∷ p) nil l e = absurd cc
first_lack_is_lack (Each ∷ p) (truth b) l e = absurd cc
first_lack_is_lack (Each ∷ p) (number z) l e = absurd cc
first_lack_is_lack (Each ∷ p) (text s) l e = absurd cc
first_lack_is_lack (Each ∷ p) (object ps) l e = absurd cc

-- ---- and nothing else

has_key : (k : String Global) (p : List Step) (ps : Pairs) (o : Option Datum) (b : Bool) → b ≡ false
    → in_member (first_lack p) (cond b None (Some (record { left = length p; among = ps }))) o ≡ None → is_some o ≡ true
has_key k p ps (Some v) b small e = refl
has_key k p ps None true small e = absurd cc
has_key k p ps None false small e = absurd cc

object_same : (ps qs : Pairs) → object ps ≡ object qs → ps ≡ qs
object_same ps qs e = ap get e
  where
    get : Datum → Pairs
    get (object rs) = rs
    get nil = ps
    get (truth b) = ps
    get (number z) = ps
    get (text s) = ps
    get (array ds) = ps

abbrev Complete : List Step → List Step → String Global → Type 0
Complete before after key =
    (d : Datum) (ps : Pairs) → first_lack (before ++ Key key ∷ after) d ≡ None → IsElementOf (object ps) (values_along before d)
    → bytes_eq (string_bytes key) (codes "size") ≡ false → is_some (value_at (string_bytes key) ps) ≡ true

here : (after : List Step) (key : String Global) → Complete [] after key
here after key (object qs) ps none (inl e) small =
    subst (λ rs. is_some (value_at (string_bytes key) rs) ≡ true) (sym (object_same ps qs e))
    (has_key key after qs (value_at (string_bytes key) qs) (bytes_eq (string_bytes key) (codes "size")) small none)
here after key (object qs) ps none (inr a) small = absurd a
here after key nil ps none (inl e) small = absurd cc
here after key nil ps none (inr a) small = absurd a
here after key (truth b) ps none (inl e) small = absurd cc
here after key (truth b) ps none (inr a) small = absurd a
here after key (number z) ps none (inl e) small = absurd cc
here after key (number z) ps none (inr a) small = absurd a
here after key (text s) ps none (inl e) small = absurd cc
here after key (text s) ps none (inr a) small = absurd a
here after key (array ds) ps none (inl e) small = absurd cc
here after key (array ds) ps none (inr a) small = absurd a

in_found : (before after : List Step) (key k : String Global) (lack : Option Lacking) (o : Option Datum) (ps : Pairs) → Complete before after key
    → in_member (first_lack (before ++ Key key ∷ after)) lack o ≡ None → IsElementOf (object ps) (of_found (values_along before) o)
    → bytes_eq (string_bytes key) (codes "size") ≡ false → is_some (value_at (string_bytes key) ps) ≡ true
in_found before after key k lack None ps below none a small = absurd a
in_found before after key k lack (Some v) ps below none a small = below v ps none a small

later_none : (x y : Option Lacking) → or_later x y ≡ None → (x ≡ None) × (y ≡ None)
later_none (Some l) y e = absurd cc
later_none None y e = (refl, e)

by_either : {A B C : Type 0} → A ⊎ B → (A → C) → (B → C) → C
by_either (inl x) f g = f x
by_either (inr y) f g = g y

in_each : (before after : List Step) (key : String Global) (ds : Items) (ps : Pairs) → Complete before after key
    → in_items (first_lack (before ++ Key key ∷ after)) ds ≡ None → IsElementOf (object ps) (of_each_item (values_along before) ds)
    → bytes_eq (string_bytes key) (codes "size") ≡ false → is_some (value_at (string_bytes key) ps) ≡ true
in_each before after key no_items ps below none a small = absurd a
in_each before after key (item d ds) ps below none a small =
    let p = before ++ Key key ∷ after in
    let both = later_none (first_lack p d) (in_items (first_lack p) ds) none in
    by_either (among_either (object ps) (values_along before d) (of_each_item (values_along before) ds) a)
    (λ b. below d ps both.0 b small) (λ b. in_each before after key ds ps below both.1 b small)

pub nothing_else_lacks : NothingElseLacks
nothing_else_lacks [] after key d ps none a small = here after key d ps none a small
nothing_else_lacks (Key k ∷ before) after key (object qs) ps none a small =
    in_found before after key k (lack_at (string_bytes k) (length (before ++ Key key ∷ after)) qs) (value_at (string_bytes k) qs) ps
    (nothing_else_lacks before after key) none a small
nothing_else_lacks (Key k ∷ before) after key nil ps none a small = absurd a
nothing_else_lacks (Key k ∷ before) after key (truth b) ps none a small = absurd a
nothing_else_lacks (Key k ∷ before) after key (number z) ps none a small = absurd a
nothing_else_lacks (Key k ∷ before) after key (text s) ps none a small = absurd a
nothing_else_lacks (Key k ∷ before) after key (array ds) ps none a small = absurd a
nothing_else_lacks (Each ∷ before) after key (array ds) ps none a small =
    in_each before after key ds ps (nothing_else_lacks before after key) none a small
nothing_else_lacks (Each ∷ before) after key nil ps none a small = absurd a
nothing_else_lacks (Each ∷ before) after key (truth b) ps none a small = absurd a
nothing_else_lacks (Each ∷ before) after key (number z) ps none a small = absurd a
nothing_else_lacks (Each ∷ before) after key (text s) ps none a small = absurd a
nothing_else_lacks (Each ∷ before) after key (object qs) ps none a small = absurd a

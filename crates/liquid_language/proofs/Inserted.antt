-- Entries by name, in the code's map and as a list.
use Rattle.std.proofs.Common.{◌≡◌, List, [], ◌∷◌, Ordering, Less, Equal, Greater, Bool, true, false, Option, Some, None, option_map, Bor, String, Global, string_bytes, string_cmp, bytes_eq, is_eq, cond, nat_cmp, map, refl, sym, ap, ◌∙◌}
use mathlib.Core.Path.{fun_ext}
use Rattle.std.specs.BTreeMap.{insert_entry, is_at}
use Rattle.std.specs.Cmp.Lexicographic.{slice_cmp}
use Rattle.std.specs.Map.{lookup}
use Rattle.std.specs.Ordering.{match_ordering}
use Rattle.std.proofs.lemmas.Map.Text.{is_eq-slice_cmp}
use Rattle.std.proofs.lemmas.Slice.Eq.{bytes_eq-Decides}
use Rattle.liquid_model.specs.Texts.{Text}
use Rattle.liquid_model.specs.Maps.{listed, insert}
use Rattle.liquid_language.specs.Entries.{seen, put_entry}

abbrev pub Entry : Type 0 → Type 0
Entry X = String Global × X

by_order : {X Y : Type 0} (f : X → Y) (o : Ordering) (a b c : List (Entry X)) → seen f (match_ordering o a b c) ≡ match_ordering o (seen f a) (seen f b) (seen f c)
by_order f Less a b c = refl
by_order f Equal a b c = refl
by_order f Greater a b c = refl

pub seen_inserted : {X Y : Type 0} (f : X → Y) (es : List (Entry X)) (k : String Global) (x : X) → seen f (insert_entry string_cmp es k x) ≡ put_entry (string_bytes k) (f x) (seen f es)
seen_inserted f [] k x = refl
seen_inserted f (e ∷ es) k x = by_order f (string_cmp k e.0) _ _ _ ∙ rw (seen_inserted f es k x)

bytes_eq_sym : (a b : Text) → bytes_eq a b ≡ bytes_eq b a
bytes_eq_sym a b = on (bytes_eq a b) (bytes_eq b a) refl refl
  where
    on : (x y : Bool) → bytes_eq a b ≡ x → bytes_eq b a ≡ y → x ≡ y
    on true true e f = refl
    on false false e f = refl
    on true false e f = let h : b ≡ a = sym ((bytes_eq-Decides a b).0 e) in sym ((bytes_eq-Decides b a).1 h) ∙ f
    on false true e f = let h : a ≡ b = sym ((bytes_eq-Decides b a).0 f) in sym e ∙ (bytes_eq-Decides a b).1 h

-- ---- what is found

abbrev pub named : Text → String Global → Bool
named name = is_at (λ k. slice_cmp nat_cmp name (string_bytes k))

at_key : {X Y : Type 0} (f : X → Y) (b c : Bool) (x : X) (rest : Option X) (later : Option Y) → b ≡ c → option_map f rest ≡ later → option_map f (cond b (Some x) rest) ≡ cond c (Some (f x)) later
at_key f true true x rest later e h = refl
at_key f false false x rest later e h = h
at_key f true false x rest later e h = absurd cc
at_key f false true x rest later e h = absurd cc

pub looked_up : {X Y : Type 0} (f : X → Y) (name : Text) (es : List (Entry X)) → option_map f (lookup (named name) es) ≡ listed (seen f es) name
unfolding listed
looked_up f name [] = refl
looked_up f name (e ∷ es) =
    at_key f (is_eq (slice_cmp nat_cmp name (string_bytes e.0))) (bytes_eq (string_bytes e.0) name) e.1 _ _ (is_eq-slice_cmp name (string_bytes e.0) ∙ bytes_eq_sym name (string_bytes e.0)) (looked_up f name es)

by_reference : {X Y : Type 0} (f : X → Y) (r : Option (Bor X)) → option_map (λ x. f x.now) r ≡ option_map f (option_map (λ x. x.now) r)
by_reference f None = refl
by_reference f (Some x) = refl

pub found_reference : {X Y : Type 0} (f : X → Y) (r : Option (Bor X)) (name : Text) (es : List (Entry X)) → option_map (λ x. x.now) r ≡ lookup (named name) es → option_map (λ x. f x.now) r ≡ listed (seen f es) name
found_reference f r name es e = by_reference f r ∙ ap (option_map f) e ∙ looked_up f name es

-- ---- what was put is found

put_by : {Y : Type 0} (o : Ordering) (name other l : Text) (t u : Y) (es : List (Text × Y)) → slice_cmp nat_cmp name l ≡ o
    → listed (put_entry name t es) other ≡ cond (bytes_eq name other) (Some t) (listed es other)
    → listed (match_ordering o ((name, t) ∷ (l, u) ∷ es) ((l, t) ∷ es) ((l, u) ∷ put_entry name t es)) other ≡ cond (bytes_eq name other) (Some t) (listed ((l, u) ∷ es) other)
unfolding listed
put_by Less name other l t u es is later = refl
put_by Equal name other l t u es is later =
    let same : name ≡ l = (bytes_eq-Decides name l).0 (sym (is_eq-slice_cmp name l) ∙ ap is_eq is) in
    on (bytes_eq name other) (bytes_eq l other) (ap (λ x. bytes_eq x other) same)
  where
    on : (b c : Bool) → b ≡ c → cond c (Some t) (listed es other) ≡ cond b (Some t) (cond c (Some u) (listed es other))
    on true true e = refl
    on false false e = refl
    on true false e = absurd cc
    on false true e = absurd cc
put_by Greater name other l t u es is later = ap (λ o. cond (bytes_eq l other) (Some u) o) later ∙ on (bytes_eq name other) (bytes_eq l other) refl refl
  where
    on : (b c : Bool) → bytes_eq name other ≡ b → bytes_eq l other ≡ c → cond c (Some u) (cond b (Some t) (listed es other)) ≡ cond b (Some t) (cond c (Some u) (listed es other))
    on false c e f = refl
    on true false e f = refl
    on true true e f =
        let a : name ≡ other = (bytes_eq-Decides name other).0 e in
        let b : l ≡ other = (bytes_eq-Decides l other).0 f in
        let h : bytes_eq name l ≡ true = (bytes_eq-Decides name l).1 (a ∙ sym b) in
        let no : false ≡ true = sym (ap is_eq is) ∙ is_eq-slice_cmp name l ∙ h in
        absurd cc

put_found : {Y : Type 0} (name other : Text) (t : Y) (es : List (Text × Y)) → listed (put_entry name t es) other ≡ cond (bytes_eq name other) (Some t) (listed es other)
unfolding listed
put_found name other t [] = refl
put_found name other t (e ∷ es) = put_by (slice_cmp nat_cmp name e.0) name other e.0 t e.1 es refl (put_found name other t es)

pub listed_put : {Y : Type 0} (name : Text) (t : Y) (es : List (Text × Y)) → listed (put_entry name t es) ≡ insert (listed es) name t
unfolding insert
listed_put name t es = fun_ext (λ other. put_found name other t es)

pub listed_inserted : {X Y : Type 0} (f : X → Y) (new es : List (Entry X)) (k : String Global) (x : X) → new ≡ insert_entry string_cmp es k x → listed (seen f new) ≡ insert (listed (seen f es)) (string_bytes k) (f x)
listed_inserted f new es k x e = ap (λ l. listed (seen f l)) e ∙ ap listed (seen_inserted f es k x) ∙ listed_put (string_bytes k) (f x) (seen f es)

-- the names of entries, however they are seen
pub names_seen : {X Y : Type 0} (f : X → Y) (es : List (Entry X)) → map string_bytes (map (λ e. e.0) es) ≡ map (λ e. e.0) (seen f es)
names_seen f [] = refl
names_seen f (e ∷ es) = ap (λ l. string_bytes e.0 ∷ l) (names_seen f es)

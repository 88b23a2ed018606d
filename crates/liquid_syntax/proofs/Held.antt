-- Places by name: what they hold after a change.
use Rattle.std.specs.Prelude.{◌≡◌, Bool, true, false, cond, List, [], ◌∷◌, map, Option, Some, None, option_and_then, option_map, is_some, IsSome, String, string_bytes}
use Rattle.std.specs.String.{string_cmp}
use Rattle.std.specs.declared.alloc.Global.{Global}
use Rattle.std.specs.List.{AllByRecursion}
use Rattle.std.specs.List.Sorted.{IsStrictlySortedBy}
use Rattle.std.specs.BTreeMap.{insert_entry}
use Rattle.std.specs.Map.{lookup, set_value, keys_of}
use Rattle.std.specs.Cmp.{IsTotalOrder}
use Rattle.std.specs.Cmp.Lexicographic.{slice_cmp}
use Rattle.std.specs.Ordering.{nat_cmp, match_ordering, ordering_reverse, is_eq}
use Rattle.std.specs.declared.cmp.Ordering.{Ordering}
use Rattle.std.specs.declared.cmp.Ordering.TheVariants.{Less, Equal, Greater}
use Rattle.std.proofs.lemmas.Cmp.{nat_list_cmp_total, tied_itself}
use Rattle.std.proofs.lemmas.Map.Keys.{sorted_head, sorted_tail}
use Rattle.std.proofs.lemmas.Map.Text.{is_eq-slice_cmp}
use Rattle.std.proofs.lemmas.Slice.Eq.{bytes_eq-Decides}
use mathlib.Core.Path.{refl, sym, ap, subst, ◌∙◌}
use Rattle.liquid_model.specs.Texts.{Text, same_text}
use Rattle.liquid_model.specs.Maps.{listed, insert}
use Rattle.liquid_model.proofs.Maps.{same_key}
use Rattle.liquid_language.proofs.Inserted.{named, looked_up, seen_inserted, listed_inserted}
use Rattle.liquid_language.specs.Entries.{seen, put_entry, placed, without}
use Rattle.liquid_syntax.specs.Slots.{with_held, filled, reserved, exchanged}

abbrev pub order : Text → Text → Ordering
order = slice_cmp nat_cmp

abbrev pub names : {Y : Type 0} → List (Text × Y) → List Text
names es = map (λ e. e.0) es

-- the names are all above this one
abbrev pub AllAbove : {Y : Type 0} → Text → List (Text × Y) → Type 0
AllAbove name es = AllByRecursion (λ other. order name other ≡ Less) (names es)

abbrev pub Ascend : {Y : Type 0} → List (Text × Y) → Type 0
Ascend [] = Unit {0}
Ascend (e ∷ es) = AllAbove e.0 es × Ascend es

pub apart : true ≡ false → ⊥
apart h = cc

unequal : Less ≡ Equal → ⊥
unequal h = cc

-- ---- names in order

order_itself : (a : Text) → order a a ≡ Equal
order_itself a = tied_itself nat_list_cmp_total a

same_is : (a b : Text) → same_text a b ≡ true → a ≡ b
same_is a b h = (bytes_eq-Decides a b).0 h

equal_is : (a b : Text) → order a b ≡ Equal → a ≡ b
equal_is a b h = same_is a b (sym (is_eq-slice_cmp a b) ∙ ap is_eq h)

-- a name below another isn't it
pub below_other : (a b : Text) → order a b ≡ Less → same_text a b ≡ false
below_other a b h = on (same_text a b) refl
  where
    on : (c : Bool) → same_text a b ≡ c → same_text a b ≡ false
    on false e = e
    on true e = absurd (unequal (sym h ∙ ap (order a) (sym (same_is a b e)) ∙ order_itself a))

above_other : (a b : Text) → order a b ≡ Less → same_text b a ≡ false
above_other a b h = on (same_text b a) refl
  where
    on : (c : Bool) → same_text b a ≡ c → same_text b a ≡ false
    on false e = e
    on true e = absurd (unequal (sym h ∙ ap (order a) (same_is b a e) ∙ order_itself a))

all_above_more : {Y : Type 0} (a b : Text) (es : List (Text × Y)) → order a b ≡ Less → AllAbove b es → AllAbove a es
all_above_more a b [] h k = tt
all_above_more a b (e ∷ es) h k = (IsTotalOrder.trans nat_list_cmp_total a b e.0 h k.0, all_above_more a b es h k.1)

-- the keys of a map ascend, and so do the names that are seen
all_above_seen : {X Y : Type 0} (f : X → Y) (k : String Global) (es : List (String Global × X)) → AllByRecursion (λ q. string_cmp k q ≡ Less) (keys_of es) → AllAbove (string_bytes k) (seen f es)
all_above_seen f k [] h = tt
all_above_seen f k (e ∷ es) h = (h.0, all_above_seen f k es h.1)

pub ascend_seen : {X Y : Type 0} (f : X → Y) (es : List (String Global × X)) → IsStrictlySortedBy string_cmp (keys_of es) → Ascend (seen f es)
ascend_seen f [] h = tt
ascend_seen f (e ∷ es) h = (all_above_seen f e.0 es (sorted_head string_cmp e.0 (keys_of es) h), ascend_seen f es (sorted_tail string_cmp e.0 (keys_of es) h))

-- ---- above all names

all_above_filled : {Y : Type 0} (a : Text) (es : List (Text × Option Y)) → AllAbove a es → AllAbove a (filled es)
all_above_filled a [] h = tt
all_above_filled {Y = Y} a (e ∷ es) h = on e.1 (all_above_filled a es h.1)
  where
    on : (o : Option Y) → AllAbove a (filled es) → AllAbove a (with_held e.0 o (filled es))
    on None rest = rest
    on (Some y) rest = (h.0, rest)

put_below : {Y : Type 0} (a : Text) (y : Y) (es : List (Text × Y)) → AllAbove a es → put_entry a y es ≡ (a, y) ∷ es
put_below a y [] h = refl
put_below a y (e ∷ es) h = ap (λ o. match_ordering o ((a, y) ∷ e ∷ es) ((e.0, y) ∷ es) (e ∷ put_entry a y es)) h.0

without_below : {Y : Type 0} (a : Text) (es : List (Text × Y)) → AllAbove a es → without a es ≡ es
without_below a [] h = refl
without_below a (e ∷ es) h = ap (λ b. cond b es (e ∷ without a es)) (above_other a e.0 h.0) ∙ ap (λ l. e ∷ l) (without_below a es h.1)

pub absent_below : {Y : Type 0} (a : Text) (es : List (Text × Y)) → AllAbove a es → listed es a ≡ None
unfolding listed
absent_below a [] h = refl
absent_below a (e ∷ es) h = ap (λ b. cond b (Some e.1) (listed es a)) (above_other a e.0 h.0) ∙ absent_below a es h.1

-- a slot that is there is given something
present_above : {X : Type 0} (name other : Text) (es : List (Text × X)) → AllAbove name es → IsSome (listed es other) → order name other ≡ Less
unfolding listed
present_above name other [] h k = absurd (apart (sym k))
present_above name other (e ∷ es) h k = on (same_text e.0 other) refl k (present_above name other es h.1)
  where
    on : (b : Bool) → same_text e.0 other ≡ b → IsSome (cond b (Some e.1) (listed es other)) → (IsSome (listed es other) → order name other ≡ Less) → order name other ≡ Less
    on true s l rest = subst (λ n. order name n ≡ Less) (same_is e.0 other s) h.0
    on false s l rest = rest l

reversed : (a b : Text) → order a b ≡ Less → order b a ≡ Greater
reversed a b h = IsTotalOrder.antisymm nat_list_cmp_total b a ∙ ap ordering_reverse h

pub placed_put : {X : Type 0} (name : Text) (y : X) (es : List (Text × X)) → Ascend es → IsSome (listed es name) → placed name y es ≡ put_entry name y es
unfolding listed
placed_put name y [] h k = absurd (apart (sym k))
placed_put name y (e ∷ es) h k = on (same_text e.0 name) refl k (placed_put name y es h.1)
  where
    on : (b : Bool) → same_text e.0 name ≡ b → IsSome (cond b (Some e.1) (listed es name)) → (IsSome (listed es name) → placed name y es ≡ put_entry name y es) → cond b ((e.0, y) ∷ es) (e ∷ placed name y es) ≡ match_ordering (order name e.0) ((name, y) ∷ e ∷ es) ((e.0, y) ∷ es) (e ∷ put_entry name y es)
    on true s l rest = sym (ap (λ o. match_ordering o ((name, y) ∷ e ∷ es) ((e.0, y) ∷ es) (e ∷ put_entry name y es)) (ap (order name) (same_is e.0 name s) ∙ order_itself name))
    on false s l rest = ap (λ l. e ∷ l) (rest l) ∙ sym (ap (λ o. match_ordering o ((name, y) ∷ e ∷ es) ((e.0, y) ∷ es) (e ∷ put_entry name y es)) (reversed e.0 name (present_above e.0 name es h.0 l)))

-- ---- what places hold after a change

module _ {Y : Type 0} where
  pub filled_put : (name : Text) (y : Y) (es : List (Text × Option Y)) → Ascend es → filled (put_entry name (Some y) es) ≡ put_entry name y (filled es)
  filled_put name y [] h = refl
  filled_put name y (e ∷ es) h = on (order name e.0) refl e.1 (filled_put name y es h.1)
    where
      at : (o : Ordering) (v : Option Y) → order name e.0 ≡ o → (let l = match_ordering o ((name, Some y) ∷ (e.0, v) ∷ es) ((e.0, Some y) ∷ es) ((e.0, v) ∷ put_entry name (Some y) es) in filled (put_entry name (Some y) es) ≡ put_entry name y (filled es) → filled l ≡ put_entry name y (with_held e.0 v (filled es)))
      at Less (Some z) k rest = sym (ap (λ o. match_ordering o ((name, y) ∷ (e.0, z) ∷ filled es) ((e.0, y) ∷ filled es) ((e.0, z) ∷ put_entry name y (filled es))) k)
      at Less None k rest = sym (put_below name y (filled es) (all_above_filled name es (all_above_more name e.0 es k h.0)))
      at Equal (Some z) k rest = sym (ap (λ o. match_ordering o ((name, y) ∷ (e.0, z) ∷ filled es) ((e.0, y) ∷ filled es) ((e.0, z) ∷ put_entry name y (filled es))) k)
      at Equal None k rest = let is : e.0 ≡ name = sym (equal_is name e.0 k) in ap (λ n. (n, y) ∷ filled es) is ∙ sym (put_below name y (filled es) (all_above_filled name es (subst (λ n. AllAbove n es) is h.0)))
      at Greater (Some z) k rest = ap (λ l. (e.0, z) ∷ l) rest ∙ sym (ap (λ o. match_ordering o ((name, y) ∷ (e.0, z) ∷ filled es) ((e.0, y) ∷ filled es) ((e.0, z) ∷ put_entry name y (filled es))) k)
      at Greater None k rest = rest

      on : (o : Ordering) → order name e.0 ≡ o → (v : Option Y) → filled (put_entry name (Some y) es) ≡ put_entry name y (filled es) → filled (match_ordering (order name e.0) ((name, Some y) ∷ (e.0, v) ∷ es) ((e.0, Some y) ∷ es) ((e.0, v) ∷ put_entry name (Some y) es)) ≡ put_entry name y (with_held e.0 v (filled es))
      on o k v rest = ap (λ x. filled (match_ordering x ((name, Some y) ∷ (e.0, v) ∷ es) ((e.0, Some y) ∷ es) ((e.0, v) ∷ put_entry name (Some y) es))) k ∙ at o v k rest

  -- a new slot that holds nothing
  pub filled_reserved : (name : Text) (es : List (Text × Option Y)) → listed es name ≡ None → filled (put_entry name None es) ≡ filled es
  unfolding listed
  filled_reserved name [] h = refl
  filled_reserved name (e ∷ es) h = on (order name e.0) refl (same_text e.0 name) refl h (filled_reserved name es)
    where
      none : {X : Type 0} (x : X) (o : Option X) → Some x ≡ None → ⊥
      none x o k = cc

      on : (o : Ordering) → order name e.0 ≡ o → (b : Bool) → same_text e.0 name ≡ b → cond b (Some e.1) (listed es name) ≡ None → (listed es name ≡ None → filled (put_entry name None es) ≡ filled es) → filled (match_ordering (order name e.0) ((name, None) ∷ e ∷ es) ((e.0, None) ∷ es) (e ∷ put_entry name None es)) ≡ filled (e ∷ es)
      on o k true s l rest = absurd (none e.1 None l)
      on Less k false s l rest = ap (λ x. filled (match_ordering x ((name, None) ∷ e ∷ es) ((e.0, None) ∷ es) (e ∷ put_entry name None es))) k
      on Equal k false s l rest = absurd (apart (sym (same_key e.0) ∙ ap (same_text e.0) (sym (equal_is name e.0 k)) ∙ s))
      on Greater k false s l rest = ap (λ x. filled (match_ordering x ((name, None) ∷ e ∷ es) ((e.0, None) ∷ es) (e ∷ put_entry name None es))) k ∙ ap (λ ps. with_held e.0 e.1 ps) (rest l)

  pub filled_emptied : (name : Text) (es : List (Text × Option Y)) → Ascend es → filled (placed name None es) ≡ without name (filled es)
  filled_emptied name [] h = refl
  filled_emptied name (e ∷ es) h = on (same_text e.0 name) refl e.1 (filled_emptied name es h.1)
    where
      on : (b : Bool) → same_text e.0 name ≡ b → (v : Option Y) → filled (placed name None es) ≡ without name (filled es) → filled (cond b ((e.0, None) ∷ es) ((e.0, v) ∷ placed name None es)) ≡ without name (with_held e.0 v (filled es))
      on true s (Some z) rest = sym (ap (λ b. cond b (filled es) ((e.0, z) ∷ without name (filled es))) s)
      on true s None rest = sym (without_below name (filled es) (all_above_filled name es (subst (λ n. AllAbove n es) (same_is e.0 name s) h.0)))
      on false s (Some z) rest = ap (λ l. (e.0, z) ∷ l) rest ∙ sym (ap (λ b. cond b (filled es) ((e.0, z) ∷ without name (filled es))) s)
      on false s None rest = rest

  pub filled_exchanged : (name : Text) (held : Option Y) (es : List (Text × Option Y)) → Ascend es → IsSome (listed es name) → filled (placed name held es) ≡ exchanged name held (filled es)
  filled_exchanged name None es h k = filled_emptied name es h
  filled_exchanged name (Some y) es h k = ap filled (placed_put name (Some y) es h k) ∙ filled_put name y es h

  -- what is held under a name
  pub listed_filled : (name : Text) (es : List (Text × Option Y)) → Ascend es → listed (filled es) name ≡ option_and_then (λ held. held) (listed es name)
  unfolding listed
  listed_filled name [] h = refl
  listed_filled name (e ∷ es) h = on (same_text e.0 name) refl e.1 (listed_filled name es h.1)
    where
      on : (b : Bool) → same_text e.0 name ≡ b → (v : Option Y) → listed (filled es) name ≡ option_and_then (λ held. held) (listed es name) → listed (with_held e.0 v (filled es)) name ≡ option_and_then (λ held. held) (cond b (Some v) (listed es name))
      on true s (Some z) rest = ap (λ b. cond b (Some z) (listed (filled es) name)) s
      on true s None rest = absent_below name (filled es) (all_above_filled name es (subst (λ n. AllAbove n es) (same_is e.0 name s) h.0))
      on false s (Some z) rest = ap (λ b. cond b (Some z) (listed (filled es) name)) s ∙ rest
      on false s None rest = rest

-- what stood in a slot, put back, leaves all as it was
pub placed_back : {X : Type 0} (name : Text) (x y : X) (es : List (Text × X)) → listed es name ≡ Some x → placed name x (placed name y es) ≡ es
unfolding listed
placed_back name x y [] h = refl
placed_back name x y (e ∷ es) h = on (same_text e.0 name) refl h (placed_back name x y es)
  where
    value : {X : Type 0} (a b : X) → Some a ≡ Some b → a ≡ b
    value a b k = cc

    on : (b : Bool) → same_text e.0 name ≡ b → cond b (Some e.1) (listed es name) ≡ Some x → (listed es name ≡ Some x → placed name x (placed name y es) ≡ es) → placed name x (cond b ((e.0, y) ∷ es) (e ∷ placed name y es)) ≡ e ∷ es
    on true s k rest = ap (λ b. cond b ((e.0, x) ∷ es) ((e.0, y) ∷ placed name x es)) s ∙ ap (λ v. (e.0, v) ∷ es) (sym (value e.1 x k))
    on false s k rest = ap (λ b. cond b ((e.0, x) ∷ placed name y es) (e ∷ placed name x (placed name y es))) s ∙ ap (λ l. e ∷ l) (rest k)

-- ---- in the code's map

set_seen : {X Y : Type 0} (f : X → Y) (b c : Bool) (e : String Global × X) (w : X) (es rest : List (String Global × X)) (later : List (Text × Y)) → b ≡ c → seen f rest ≡ later
    → seen f (cond b ((e.0, w) ∷ es) (e ∷ rest)) ≡ cond c ((string_bytes e.0, f w) ∷ seen f es) ((string_bytes e.0, f e.1) ∷ later)
set_seen f true true e w es rest later h k = refl
set_seen f false false e w es rest later h k = ap (λ l. (string_bytes e.0, f e.1) ∷ l) k
set_seen f true false e w es rest later h k = absurd (apart h)
set_seen f false true e w es rest later h k = absurd (apart (sym h))

pub same_turned : (a b : Text) → same_text a b ≡ same_text b a
same_turned a b = on (same_text a b) (same_text b a) refl refl
  where
    on : (x y : Bool) → same_text a b ≡ x → same_text b a ≡ y → x ≡ y
    on true true e f = refl
    on false false e f = refl
    on true false e f = let h : b ≡ a = sym (same_is a b e) in sym ((bytes_eq-Decides b a).1 h) ∙ f
    on false true e f = let h : a ≡ b = sym (same_is b a f) in sym e ∙ (bytes_eq-Decides a b).1 h

-- what the code's map holds after a write at a name
pub seen_placed : {X Y : Type 0} (f : X → Y) (name : Text) (w : X) (es : List (String Global × X)) → seen f (set_value (named name) es w) ≡ placed name (f w) (seen f es)
seen_placed f name w [] = refl
seen_placed f name w (e ∷ es) = set_seen f (named name e.0) (same_text (string_bytes e.0) name) e w es (set_value (named name) es w) _ (is_eq-slice_cmp name (string_bytes e.0) ∙ same_turned name (string_bytes e.0)) (seen_placed f name w es)

-- what a look-up finds
pub seen_found : {X Y : Type 0} (f : X → Y) (name : Text) (es : List (String Global × X)) (found : Option X) → found ≡ lookup (named name) es → listed (seen f es) name ≡ option_map f found
seen_found f name es found h = sym (looked_up f name es) ∙ ap (option_map f) (sym h)

pub held_found : {X Y : Type 0} (f : X → Y) (name : Text) (es : List (String Global × Option X)) (found : Option (Option X)) → IsStrictlySortedBy string_cmp (keys_of es) → found ≡ lookup (named name) es
    → listed (filled (seen (option_map f) es)) name ≡ option_map f (option_and_then (λ held. held) found)
held_found f name es found h k = listed_filled name (seen (option_map f) es) (ascend_seen (option_map f) es h) ∙ ap (option_and_then (λ held. held)) (seen_found (option_map f) name es found k) ∙ inner found
  where
    inner : (o : Option (Option _)) → option_and_then (λ held. held) (option_map (option_map f) o) ≡ option_map f (option_and_then (λ held. held) o)
    inner None = refl
    inner (Some held) = refl

pub inserted_there : {X Y : Type 0} (f : X → Y) (new es : List (String Global × X)) (k : String Global) (x : X) → new ≡ insert_entry string_cmp es k x → IsSome (listed (seen f new) (string_bytes k))
unfolding insert
inserted_there f new es k x e = ap (λ m. is_some (m (string_bytes k))) (listed_inserted f new es k x e) ∙ ap (λ b. is_some (cond b (Some (f x)) (listed (seen f es) (string_bytes k)))) (same_key (string_bytes k))

pub reserved_same : {X Y : Type 0} (f : X → Y) (new es : List (String Global × Option X)) (k : String Global) → new ≡ insert_entry string_cmp es k None → is_some (lookup (named (string_bytes k)) es) ≡ false → filled (seen (option_map f) new) ≡ filled (seen (option_map f) es)
reserved_same f new es k e h =
    ap (λ l. filled (seen (option_map f) l)) e ∙ ap filled (seen_inserted (option_map f) es k None)
    ∙ filled_reserved (string_bytes k) (seen (option_map f) es) (seen_found (option_map f) (string_bytes k) es _ refl ∙ none (lookup (named (string_bytes k)) es) h)
  where
    none : (o : Option (Option _)) → is_some o ≡ false → option_map (option_map f) o ≡ None
    none None h = refl
    none (Some held) h = absurd (apart h)

pub seen_has : {X Y : Type 0} (f : X → Y) (name : Text) (es : List (String Global × X)) → is_some (listed (seen f es) name) ≡ is_some (lookup (named name) es)
seen_has f name es = ap is_some (seen_found f name es _ refl) ∙ kept (lookup (named name) es)
  where
    kept : (o : Option _) → is_some (option_map f o) ≡ is_some o
    kept None = refl
    kept (Some x) = refl

pub seen_there : {X Y : Type 0} (f : X → Y) (name : Text) (es : List (String Global × X)) → is_some (lookup (named name) es) ≡ true → IsSome (listed (seen f es) name)
seen_there f name es h = seen_has f name es ∙ h

-- a name that has a place keeps it, and one that has none gets an empty one
abbrev reserved_if : {Y : Type 0} → Text → List (Text × Option Y) → Bool → List (Text × Option Y)
reserved_if name es has = cond has es (put_entry name None es)

pub reserved_there : {X Y : Type 0} (f : X → Option Y) (name : Text) (es : List (String Global × X)) → is_some (lookup (named name) es) ≡ true → seen f es ≡ reserved name (seen f es)
reserved_there f name es h = sym (ap (reserved_if name (seen f es)) (seen_has f name es ∙ h))

pub reserved_new : {X Y : Type 0} (f : X → Y) (new es : List (String Global × Option X)) (k : String Global) → new ≡ insert_entry string_cmp es k None → is_some (lookup (named (string_bytes k)) es) ≡ false → seen (option_map f) new ≡ reserved (string_bytes k) (seen (option_map f) es)
reserved_new f new es k e h =
    ap (seen (option_map f)) e ∙ seen_inserted (option_map f) es k None
    ∙ sym (ap (reserved_if (string_bytes k) (seen (option_map f) es)) (seen_has (option_map f) (string_bytes k) es ∙ h))

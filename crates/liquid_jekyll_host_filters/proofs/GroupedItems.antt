-- The texts by which items are grouped, and the items of each.
use Rattle.std.proofs.Common.{◌≡◌, Bool, true, false, ◌||◌, cond, List, [], ◌∷◌, ◌++◌, ap, refl, sym, ◌∙◌, append-nil, append_assoc, map, Bor, if◌then◌else◌}
use Rattle.std.proofs.lemmas.Slice.Eq.{bytes_eq-Decides}
use Rattle.std.proofs.lemmas.List.{map-append}
use Rattle.liquid_model.specs.Data.{Datum}
use Rattle.liquid_model.specs.View.{view}
use Rattle.liquid_model.specs.declared.value.Value.{Value}
use Rattle.liquid_model.specs.Texts.{Text, same_text}
use Rattle.liquid_jekyll_host_filters.specs.Groups.{group_name, has_text, items_named, names_after, noted}
use Rattle.liquid_jekyll_host_filters.specs.inside.Members.{item_if_named, member_if_named}

-- ---- among the texts
true_not_false : (t : Bool) → t ≡ true → t ≡ false → ⊥
true_not_false true h k = cc
true_not_false false h k = cc

own : (t : Text) → same_text t t ≡ true
own t = (bytes_eq-Decides t t).1 refl

or_true : (b : Bool) → (b || true) ≡ true
or_true true = refl
or_true false = refl

or_false : (b : Bool) → (b || false) ≡ b
or_false true = refl
or_false false = refl

or_or : (a b c : Bool) → (a || (b || c)) ≡ ((a || b) || c)
or_or true b c = refl
or_or false b c = refl

has_appended : (q : Text) (us : List Text) (t : Text) → has_text q (us ++ t ∷ []) ≡ (has_text q us || same_text q t)
has_appended q [] t = or_false (same_text q t)
has_appended q (u ∷ us) t = ap (λ b. same_text q u || b) (has_appended q us t) ∙ or_or (same_text q u) (has_text q us) (same_text q t)

noted_by : (q t : Text) (us : List Text) (b : Bool) → has_text t us ≡ b → has_text q us ≡ true → has_text q (if b then us else us ++ t ∷ []) ≡ true
noted_by q t us true e h = h
noted_by q t us false e h = has_appended q us t ∙ ap (λ c. c || same_text q t) h

pub itself_by : (t : Text) (us : List Text) (b : Bool) → has_text t us ≡ b → has_text t (if b then us else us ++ t ∷ []) ≡ true
itself_by t us true e = e
itself_by t us false e = has_appended t us t ∙ ap (λ c. has_text t us || c) (own t) ∙ or_true (has_text t us)

pub kept : (name q : Text) (us : List Text) (ds : List Datum) → has_text q us ≡ true → has_text q (names_after name us ds) ≡ true
kept name q us [] h = h
kept name q us (d ∷ ds) h = kept name q (noted (group_name name d) us) ds (noted_by q (group_name name d) us (has_text (group_name name d) us) refl h)

-- ---- the items of a text
pub one_more_item : (name : Text) (d : Datum) (ds : List Datum) (q : Text) (all old new : List Datum) → all ≡ old ++ items_named name (d ∷ ds) q → new ≡ old ++ member_if_named (group_name name d) d q → all ≡ new ++ items_named name ds q
one_more_item name d ds q all old new inv n = by (same_text q (group_name name d)) refl
  where
    by : (b : Bool) → same_text q (group_name name d) ≡ b → all ≡ new ++ items_named name ds q
    by true e =
        let m : new ≡ old ++ d ∷ [] = n ∙ ap (λ t. old ++ (if t then d ∷ [] else [])) e in
        inv ∙ ap (λ t. old ++ cond t (d ∷ items_named name ds q) (items_named name ds q)) e ∙ sym (append_assoc old (d ∷ []) (items_named name ds q)) ∙ ap (λ x. x ++ items_named name ds q) (sym m)
    by false e =
        let m : new ≡ old = n ∙ ap (λ t. old ++ (if t then d ∷ [] else [])) e ∙ append-nil old in
        inv ∙ ap (λ t. old ++ cond t (d ∷ items_named name ds q) (items_named name ds q)) e ∙ ap (λ x. x ++ items_named name ds q) (sym m)

abbrev datum_of : Bor Value → Datum
datum_of v = view v.now

joins_by : (old : List (Bor Value)) (item : Bor Value) (d : Datum) (b : Bool) → view item.now ≡ d → map datum_of (old ++ (if b then item ∷ [] else [])) ≡ map datum_of old ++ (if b then d ∷ [] else [])
joins_by old item d true e = map-append datum_of old (item ∷ []) ∙ ap (λ x. map datum_of old ++ x ∷ []) e
joins_by old item d false e = map-append datum_of old []

-- the same of items that are borrowed
pub one_more_member : (old new : List (Bor Value)) (item : Value) (borrowed : Bor Value) (t u q : Text) → new ≡ old ++ item_if_named t borrowed q → borrowed.now ≡ item → t ≡ u → map datum_of new ≡ map datum_of old ++ member_if_named u (view item) q
one_more_member old new item borrowed t u q n l e =
    ap (map datum_of) n ∙ joins_by old borrowed (view item) (same_text q t) (ap view l) ∙ ap (λ s. map datum_of old ++ member_if_named s (view item) q) e

-- ---- texts that are noted
pub noted_there : (t : Text) (us : List Text) → has_text t us ≡ true → us ≡ noted t us
noted_there t us h = sym (ap (λ b. if b then us else us ++ t ∷ []) h)

pub noted_new : (t : Text) (us : List Text) → has_text t us ≡ false → us ++ t ∷ [] ≡ noted t us
noted_new t us h = sym (ap (λ b. if b then us else us ++ t ∷ []) h)

pub same_by : (q t : Text) (b : Bool) → same_text q t ≡ b → same_text t q ≡ b
same_by q t true e = (bytes_eq-Decides t q).1 (sym ((bytes_eq-Decides q t).0 e))
same_by q t false e = other (same_text t q) refl
  where
    other : (c : Bool) → same_text t q ≡ c → c ≡ false
    other true h = absurd (true_not_false (same_text q t) ((bytes_eq-Decides q t).1 (sym ((bytes_eq-Decides t q).0 h))) e)
    other false h = refl

seen_by : (t q : Text) (us : List Text) (b : Bool) → same_text t q ≡ b → cond b true (has_text q us) ≡ (has_text q us || b)
seen_by t q us true e = sym (or_true (has_text q us))
seen_by t q us false e = sym (or_false (has_text q us))

-- a set with one text more
pub seen_more : (t : Text) (us : List Text) (q : Text) (old new : Bool) → old ≡ has_text q us → new ≡ cond (same_text t q) true old → new ≡ has_text q (us ++ t ∷ [])
seen_more t us q old new o n =
    n ∙ ap (cond (same_text t q) true) o ∙ seen_by t q us (same_text t q) refl ∙ ap (λ b. has_text q us || b) (sym (same_by t q (same_text t q) refl)) ∙ sym (has_appended q us t)

-- The groups of a list have its items, each once, and keep their order.
use Rattle.std.proofs.Common.{◌≡◌, Bool, true, false, ◌||◌, cond, List, [], ◌∷◌, ◌++◌, flat_map, refl, sym, ap, ap₂, ◌∙◌, subst, if◌then◌else◌}
use Rattle.std.proofs.lemmas.Bool.{or_parts, false≢true}
use Rattle.std.proofs.lemmas.List.Elements.{filter-append}
use Rattle.std.proofs.lemmas.List.Sorted.{IsPermutation-refl, IsPermutation-trans, IsPermutation-cons, IsPermutation-append_right, IsPermutation-middle}
use Rattle.std.proofs.lemmas.Slice.Eq.{bytes_eq-Decides}
use Rattle.std.specs.List.{AllByRecursion, IsDistinct}
use Rattle.std.specs.List.Sorted.{IsPermutation}
use Rattle.liquid_model.specs.Data.{Datum}
use Rattle.liquid_model.specs.Texts.{Text, same_text}
use Rattle.liquid_jekyll_host_filters.specs.Groups.{group_name, has_text, items_named, names_after, noted}
use Rattle.liquid_jekyll_host_filters.specs.Laws.{GroupsLoseNothing, GroupsDiffer, GroupsKeepOrder}
use Rattle.liquid_jekyll_host_filters.proofs.GroupedItems.{itself_by, kept, same_by}

abbrev Differ : List Text → Type 0
Differ us = IsDistinct same_text us

-- ---- names differ

not_among : (u : Text) (us : List Text) → has_text u us ≡ false → AllByRecursion (λ v. same_text u v ≡ false) us
not_among u [] h = tt
not_among u (v ∷ us) h = let both = or_parts (same_text u v) (has_text u us) h in (both.0, not_among u us both.1)

one_more : (t : Text) (us : List Text) → AllByRecursion (λ v. same_text t v ≡ false) us → (u : Text) → AllByRecursion (λ v. same_text u v ≡ false) us → same_text u t ≡ false → AllByRecursion (λ v. same_text u v ≡ false) (us ++ t ∷ [])
one_more t [] h u all e = (e, tt)
one_more t (v ∷ us) h u all e = (all.0, one_more t us h.1 u all.1 e)

differ_more : (t : Text) (us : List Text) → Differ us → AllByRecursion (λ v. same_text t v ≡ false) us → Differ (us ++ t ∷ [])
unfolding IsDistinct
differ_more t [] d h = (tt, tt)
differ_more t (u ∷ us) d h = (one_more t us h.1 u d.0 (same_by t u false h.0), differ_more t us d.1 h.1)

differ_noted : (t : Text) (us : List Text) (b : Bool) → has_text t us ≡ b → Differ us → Differ (if b then us else us ++ t ∷ [])
differ_noted t us true e d = d
differ_noted t us false e d = differ_more t us d (not_among t us e)

names_differ : (name : Text) (us : List Text) (ds : List Datum) → Differ us → Differ (names_after name us ds)
names_differ name us [] h = h
names_differ name us (d ∷ ds) h = names_differ name (noted (group_name name d) us) ds (differ_noted (group_name name d) us (has_text (group_name name d) us) refl h)

pub names_law : GroupsDiffer
unfolding IsDistinct
names_law name ds = names_differ name [] ds tt

-- ---- the items of all groups

module _ (name : Text) (d : Datum) (ds : List Datum) where
  abbrev named : Text
  named = group_name name d

  abbrev all_of : List Text → List Datum
  all_of us = flat_map (items_named name ds) us

  abbrev all_with : List Text → List Datum
  all_with us = flat_map (items_named name (d ∷ ds)) us

  -- no group of another name has the item
  in_others : (us : List Text) → AllByRecursion (λ v. same_text named v ≡ false) us → all_with us ≡ all_of us
  in_others [] h = refl
  in_others (u ∷ us) h = ap₂ (λ b es. cond b (d ∷ items_named name ds u) (items_named name ds u) ++ es) (same_by named u false h.0) (in_others us h.1)

  same_all : (u : Text) (us : List Text) → u ≡ named → AllByRecursion (λ v. same_text u v ≡ false) us → AllByRecursion (λ v. same_text named v ≡ false) us
  same_all u us e h = subst (λ t. AllByRecursion (λ v. same_text t v ≡ false) us) e h

  -- one group has it, once
  in_one : (us : List Text) → Differ us → has_text named us ≡ true → IsPermutation (all_with us) (d ∷ all_of us)
  unfolding IsDistinct
  in_one [] differ h = absurd (false≢true h)
  in_one (u ∷ us) differ h = by (same_text u named) refl differ.0 (in_one us differ.1)
    where
      by : (b : Bool) → same_text u named ≡ b → AllByRecursion (λ v. same_text u v ≡ false) us → (has_text named us ≡ true → IsPermutation (all_with us) (d ∷ all_of us))
          → IsPermutation (cond (same_text u named) (d ∷ items_named name ds u) (items_named name ds u) ++ all_with us) (d ∷ (items_named name ds u ++ all_of us))
      by true e apart next =
          let others = in_others us (same_all u us ((bytes_eq-Decides u named).0 e) apart) in
          let all = ap₂ (λ c es. cond c (d ∷ items_named name ds u) (items_named name ds u) ++ es) e others in
          subst (λ es. IsPermutation es (d ∷ (items_named name ds u ++ all_of us))) (sym all) (IsPermutation-refl (d ∷ (items_named name ds u ++ all_of us)))
      by false e apart next =
          let later = ap (λ c. c || has_text named us) (sym (same_by u named false e)) ∙ h in
          let moved = IsPermutation-trans _ _ _ (IsPermutation-append_right (items_named name ds u) _ _ (next later)) (IsPermutation-middle (items_named name ds u) d (all_of us)) in
          let all = ap (λ c. cond c (d ∷ items_named name ds u) (items_named name ds u) ++ all_with us) e in
          subst (λ es. IsPermutation es (d ∷ (items_named name ds u ++ all_of us))) (sym all) moved

no_items : (name : Text) (us : List Text) → flat_map (items_named name []) us ≡ []
no_items name [] = refl
no_items name (u ∷ us) = no_items name us

all_items : (name : Text) (us : List Text) (ds : List Datum) → Differ us → IsPermutation (flat_map (items_named name ds) (names_after name us ds)) ds
all_items name us [] differ = subst (λ es. IsPermutation es []) (sym (no_items name us)) (IsPermutation-refl [])
all_items name us (d ∷ ds) differ =
    let t = group_name name d in
    let next = noted t us in
    let names = names_after name next ds in
    let apart = differ_noted t us (has_text t us) refl differ in
    let there = kept name t next ds (itself_by t us (has_text t us) refl) in
    IsPermutation-trans _ _ _ (in_one name d ds names (names_differ name next ds apart) there) (IsPermutation-cons d _ _ (all_items name next ds apart))

pub items_law : GroupsLoseNothing
unfolding IsDistinct
items_law name ds = all_items name [] ds tt

-- ---- order

names_more : (name : Text) (us : List Text) (ds : List Datum) (d : Datum) → names_after name us (ds ++ d ∷ []) ≡ noted (group_name name d) (names_after name us ds)
names_more name us [] d = refl
names_more name us (e ∷ ds) d = names_more name (noted (group_name name e) us) ds d

pub order_law : GroupsKeepOrder
order_law name ds d = (names_more name [] ds d, λ t. filter-append (λ e. same_text t (group_name name e)) ds (d ∷ []))

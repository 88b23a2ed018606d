-- Filters answer alike to inputs that are alike in what they ask.
use Rattle.std.specs.Prelude.{◌≡◌, ℕ, zero, suc, ◌-◌, Bool, true, false, cond, List, [], ◌∷◌, ◌++◌, Option, Some, None, Result, Ok, Err, bytes_eq, codes, option_and_then, option_map}
use mathlib.Core.Path.{refl, sym, ap, subst}
use Rattle.std.specs.Option.{unwrap_or}
use Rattle.std.specs.Ordering.{is_lt}
use Rattle.std.specs.List.{cons_option}
use Rattle.liquid_model.specs.Texts.{Text, same_text}
use Rattle.liquid_model.specs.Data.{Datum, nil, truth, number, text, array, object, Items, Pairs, text_of}
use Rattle.liquid_model.specs.Find.{counted, item_at, item_back}
use Rattle.liquid_model.specs.Lists.{list_of, pair_lists}
use Rattle.liquid_model.specs.declared.error.ErrorKind.{ErrorKind}
use Rattle.liquid_model.specs.declared.error.ErrorKind.TheVariants.{InvalidInput}
use Rattle.liquid_model.specs.Fallible.{◌>>=◌}
use Rattle.liquid_core.specs.Expression.{Expression, literal, variable}
use Rattle.liquid_core.specs.Environment.{Environment}
use Rattle.liquid_model.specs.Arguments.{first_of}
use Rattle.liquid_model.specs.FilterAnswers.{FilterAnswer}
use Rattle.liquid_filters.specs.Kinds.{kind_answer}
use Rattle.liquid_filters.specs.declared.kind.FilterKind.{FilterKind}
use Rattle.liquid_filters.specs.declared.kind.FilterKind.TheVariants.{Sort, SortNatural, Where, Reverse, Map, Concat, First, Last, Size, Compact, Default}
use Rattle.liquid_evaluation.specs.Tree.{Filter, existing, hosted}
use Rattle.liquid_evaluation.specs.Evaluation.{answers_with}
use Rattle.liquid_core.specs.Expressions.{value_of}
use Rattle.liquid_evaluation.specs.Calls.{taken_arguments}
use Rattle.liquid_filters.specs.Sequences.{list, sequence, all_maps, property, of_list}
use Rattle.liquid_filters.specs.Ends.{or_nil, first_answer, last_answer}
use Rattle.liquid_filters.specs.Keeping.{is_wanted, where_of, where_by, where_answer, mapped_property, map_answer, compact_by, compact_answer}
use Rattle.liquid_filters.specs.Rows.{reverse_answer, after_list, concat_by, concat_answer}
use Rattle.liquid_filters.specs.Sorting.{insert_in_order, sorted, Key, key_order, sort_by, sort_key, key_of, lower_case, natural_key_of, sort_named, sort_answer, sort_natural_answer}
use Rattle.liquid_model.specs.Uses.{Use, nothing, everything, parts, ItemUse, uncounted, up_to, shape_of, Pairwise, Alike, AlikeItems, present, use_of_each, join, items_wanted}
use Rattle.liquid_meaning.specs.Reads.{Both}
use Rattle.liquid_meaning.specs.FilterNeeds.{filter_needs, items_each, with_field, items_or_itself, one_field, literal_first_argument, by_property, kind_needs, KnownRespected}
use Rattle.liquid_model.proofs.Alike.{pairwise_same, pairwise_more, up_to_all, up_to_more, alike_same, alike_shape, alike_present, present_asks, join_left, join_right, AlikeLists}
use Rattle.liquid_meaning.proofs.SeenItems.{pairwise_reverse}
use Rattle.liquid_meaning.proofs.NeededItems.{AlikeAs, by_shape, answers_same, same_size, list_alike, kept_alike, property_alike, field_of, rest_of, shape_of_field, maps_same, chosen}
use Rattle.liquid_meaning.proofs.KeptNeeds.{compact_respects, given_respects, default_respects}

values : Result (List Datum) ErrorKind → List Datum
values (Ok ds) = ds
values (Err kind) = []

-- ---- first and last

or_nil_alike : (v : Use) (o p : Option Datum) → Alike v o p → AlikeAs v (or_nil o) (or_nil p)
or_nil_alike v None None a = alike_same v (Some nil)
or_nil_alike v (Some c) (Some d) a = a
or_nil_alike nothing None (Some d) a = tt
or_nil_alike everything None (Some d) a = absurd cc
or_nil_alike (parts members turns) None (Some d) a = let e = a.0 in absurd cc
or_nil_alike nothing (Some c) None a = tt
or_nil_alike everything (Some c) None a = absurd cc
or_nil_alike (parts members turns) (Some c) None a = let e = a.0 in absurd cc

first_respects : (v : Use) (arguments : List Datum) (c d : Datum) → AlikeAs (one_field (codes "first") v) c d → Both (AlikeAs v) (first_answer c arguments) (first_answer d arguments)
first_respects v arguments c d a = by_shape (λ c d. AlikeAs (one_field (codes "first") v) c d → Both (AlikeAs v) (first_answer c arguments) (first_answer d arguments))
    (λ d a. answers_same v _ _ refl)
    (λ ds es a. or_nil_alike v (item_at 0 ds) (item_at 0 es) a.1.0.0)
    (λ ps qs a. refl) c d a.0 a

last_respects : (v : Use) (arguments : List Datum) (c d : Datum) → AlikeAs (one_field (codes "last") v) c d → Both (AlikeAs v) (last_answer c arguments) (last_answer d arguments)
last_respects v arguments c d a = by_shape (λ c d. AlikeAs (one_field (codes "last") v) c d → Both (AlikeAs v) (last_answer c arguments) (last_answer d arguments))
    (λ d a. answers_same v _ _ refl)
    (λ ds es a. or_nil_alike v (item_back 1 ds) (item_back 1 es) a.1.0.0)
    (λ ps qs a. refl) c d a.0 a

-- ---- reverse and concat

reverse_respects : (v : Use) (arguments : List Datum) (c d : Datum) → AlikeAs (items_each (items_wanted v)) c d → Both (AlikeAs v) (reverse_answer c arguments) (reverse_answer d arguments)
reverse_respects v arguments c d a = by_shape (λ c d. AlikeAs (items_each (items_wanted v)) c d → Both (AlikeAs v) (reverse_answer c arguments) (reverse_answer d arguments))
    (λ d a. answers_same v _ _ refl)
    (λ ds es a. list_alike v _ _ (pairwise_reverse _ (list_of ds) (list_of es) a.1.1))
    (λ ps qs a. refl) c d a.0 a

pairwise_both : {A : Type 0} (R : A → A → Type 0) (xs ys zs ws : List A) → Pairwise R xs ys → Pairwise R zs ws → Pairwise R (xs ++ zs) (ys ++ ws)
pairwise_both R [] [] zs ws h k = k
pairwise_both R [] (y ∷ ys) zs ws h k = absurd h
pairwise_both R (x ∷ xs) [] zs ws h k = absurd h
pairwise_both R (x ∷ xs) (y ∷ ys) zs ws h k = (h.0, pairwise_both R xs ys zs ws h.1 k)

after_alike : (v : Use) (ds es : List Datum) (b : Datum) → AlikeLists (items_wanted v) ds es → Both (AlikeAs v) (after_list ds b) (after_list es b)
after_alike v ds es nil a = refl
after_alike v ds es (truth b) a = refl
after_alike v ds es (number z) a = refl
after_alike v ds es (text s) a = refl
after_alike v ds es (object ps) a = refl
after_alike v ds es (array xs) a = list_alike v _ _ (pairwise_both _ ds es (list_of xs) (list_of xs) a (pairwise_same _ (λ x. alike_same (items_wanted v) (Some x)) (list_of xs)))

concat_respects : (v : Use) (arguments : List Datum) (c d : Datum) → AlikeAs (items_each (items_wanted v)) c d → Both (AlikeAs v) (concat_answer c arguments) (concat_answer d arguments)
concat_respects v [] c d a = refl
concat_respects v (b ∷ bs) c d a = by_shape (λ c d. AlikeAs (items_each (items_wanted v)) c d → Both (AlikeAs v) (concat_by c b) (concat_by d b))
    (λ d a. answers_same v _ _ refl)
    (λ ds es a. after_alike v (list_of ds) (list_of es) b a.1.1)
    (λ ps qs a. refl) c d a.0 a

-- ---- map

map_alike : (name : Text) (w : Use) → bytes_eq name (codes "size") ≡ false → (ds es : List Datum) → AlikeLists (one_field name (present w)) ds es → AlikeLists w (mapped_property name ds) (mapped_property name es)
map_alike name w no_length [] [] a = tt
map_alike name w no_length [] (e ∷ es) a = absurd a
map_alike name w no_length (d ∷ ds) [] a = absurd a
map_alike name w no_length (d ∷ ds) (e ∷ es) a = at (property name d) (property name e) (property_alike name (present w) d e no_length a.0.0 a.0.1.0.0) (map_alike name w no_length ds es a.1)
  where
    at : (o p : Option Datum) → Alike (present w) o p → AlikeLists w (mapped_property name ds) (mapped_property name es) → AlikeLists w (cons_option o (mapped_property name ds)) (cons_option p (mapped_property name es))
    at None None a rest = rest
    at None (Some y) a rest = let e = alike_shape (present w) None (Some y) (present_asks w) a in absurd cc
    at (Some x) None a rest = let e = alike_shape (present w) (Some x) None (present_asks w) a in absurd cc
    at (Some x) (Some y) a rest = (alike_present w (Some x) (Some y) a, rest)

map_respects : (name : Text) (v : Use) (c d : Datum) → bytes_eq name (codes "size") ≡ false → AlikeAs (items_each (one_field name (present (items_wanted v)))) c d → Both (AlikeAs v) (of_list (mapped_property name) c) (of_list (mapped_property name) d)
map_respects name v c d no_length a = by_shape (λ c d. AlikeAs (items_each (one_field name (present (items_wanted v)))) c d → Both (AlikeAs v) (of_list (mapped_property name) c) (of_list (mapped_property name) d))
    (λ d a. answers_same v _ _ refl)
    (λ ds es a. list_alike v _ _ (map_alike name (items_wanted v) no_length (list_of ds) (list_of es) a.1.1))
    (λ ps qs a. refl) c d a.0 a

-- ---- where and sort

-- of items that are alike in W
itself : (W : Use) (ps qs : Pairs) → AlikeAs (items_or_itself W) (object ps) (object qs) → AlikeAs W (object ps) (object qs)
itself nothing ps qs a = tt
itself everything ps qs a = a
itself (parts members turns) ps qs a = (a.0, (a.1.0, over turns a.1.1))
  where
    over : (more : ItemUse) → Pairwise (AlikeAs (join (parts members turns) (use_of_each more))) (pair_lists ps) (pair_lists qs) → AlikeItems more (Some (object ps)) (Some (object qs))
    over uncounted a = tt
    over (up_to n u) a = up_to_more _ _ (λ x y h. join_right (parts members turns) u (Some x) (Some y) h) n (pair_lists ps) (pair_lists qs) (up_to_all _ n (pair_lists ps) (pair_lists qs) a)

all_same : (W : Use) (ds es : Items) → Some (array ds) ≡ Some (array es) → AlikeLists W (list_of ds) (list_of es)
all_same W ds es e = subst (λ xs. AlikeLists W (list_of ds) xs) (ap (λ o. sequence (unwrap_or o nil)) e) (pairwise_same _ (λ x. alike_same W (Some x)) (list_of ds))

its_items : (W : Use) (ds es : Items) → AlikeAs (items_or_itself W) (array ds) (array es) → AlikeLists W (list_of ds) (list_of es)
its_items (parts members turns) ds es a = pairwise_more _ _ (λ x y h. join_left (parts members turns) (use_of_each turns) (Some x) (Some y) h) (list_of ds) (list_of es) a.1.1
its_items nothing ds es a = all_same nothing ds es a
its_items everything ds es a = all_same everything ds es a

module _ (name : Text) (w : Use) (no_length : bytes_eq name (codes "size") ≡ false) where
  abbrev W : Use
  W = with_field name everything w

  property_same : (d e : Datum) → AlikeAs W d e → property name d ≡ property name e
  property_same d e a = property_alike name everything d e no_length (shape_of_field name everything w d e a) (field_of name everything w d e a)

  -- ---- sort

  module _ (key : Datum → Key) (key_same : (d e : Datum) → property name d ≡ property name e → key d ≡ key e) where
    abbrev below : Datum → Datum → Bool
    below d e = is_lt (key_order (key d) (key e))

    below_same : (c d x y : Datum) → AlikeAs W c d → AlikeAs W x y → below c x ≡ below d y
    below_same c d x y a b = λ i. is_lt (key_order (key_same c d (property_same c d a) i) (key_same x y (property_same x y b) i))

    insert_alike : (x y : Datum) (ds es : List Datum) → AlikeAs W x y → AlikeLists W ds es → AlikeLists W (insert_in_order below x ds) (insert_in_order below y es)
    insert_alike x y [] [] r a = (r, tt)
    insert_alike x y [] (e ∷ es) r a = absurd a
    insert_alike x y (d ∷ ds) [] r a = absurd a
    insert_alike x y (d ∷ ds) (e ∷ es) r a = at (below d x) (below e y) (below_same d e x y a.0 r) (insert_alike x y ds es r a.1)
      where
        placed : (b : Bool) → AlikeLists W (insert_in_order below x ds) (insert_in_order below y es) → AlikeLists W (cond b (d ∷ insert_in_order below x ds) (x ∷ d ∷ ds)) (cond b (e ∷ insert_in_order below y es) (y ∷ e ∷ es))
        placed true rest = (a.0, rest)
        placed false rest = (r, a)

        at : (b c : Bool) → b ≡ c → AlikeLists W (insert_in_order below x ds) (insert_in_order below y es) → AlikeLists W (cond b (d ∷ insert_in_order below x ds) (x ∷ d ∷ ds)) (cond c (e ∷ insert_in_order below y es) (y ∷ e ∷ es))
        at b c same rest = subst (λ c. AlikeLists W (cond b (d ∷ insert_in_order below x ds) (x ∷ d ∷ ds)) (cond c (e ∷ insert_in_order below y es) (y ∷ e ∷ es))) same (placed b rest)

    sorted_alike : (ds es : List Datum) → AlikeLists W ds es → AlikeLists W (sorted below ds) (sorted below es)
    sorted_alike [] [] a = tt
    sorted_alike [] (e ∷ es) a = absurd a
    sorted_alike (d ∷ ds) [] a = absurd a
    sorted_alike (d ∷ ds) (e ∷ es) a = insert_alike d e (sorted below ds) (sorted below es) a.0 (sorted_alike ds es a.1)

module _ (name : Text) (v : Use) (no_length : bytes_eq name (codes "size") ≡ false) where
  abbrev V : Use
  V = with_field name everything (items_wanted v)

  wanted_alike : (target : Option Datum) (ds es : List Datum) → AlikeLists V ds es → AlikeLists (items_wanted v) (where_of name target ds) (where_of name target es)
  wanted_alike target ds es a = kept_alike V (items_wanted v) (λ d. is_wanted target (property name d)) (λ d e r. ap (is_wanted target) (property_same name (items_wanted v) no_length d e r)) (λ d e r. rest_of name everything (items_wanted v) d e r) ds es a

  where_list : (target : Option Datum) (ds es : List Datum) → AlikeLists V ds es → Both (AlikeAs v) (cond (all_maps ds) (Ok (list (where_of name target ds))) (Ok nil)) (cond (all_maps es) (Ok (list (where_of name target es))) (Ok nil))
  where_list target ds es a = chosen v (all_maps ds) (all_maps es) _ _ _ _ (maps_same name everything (items_wanted v) ds es a)
      (list_alike v _ _ (wanted_alike target ds es a)) (alike_same v (Some nil))

  shape_before : (c d : Datum) → AlikeAs (items_or_itself V) c d → shape_of (Some c) ≡ shape_of (Some d)
  shape_before c d a = at (items_wanted v) a
    where
      at : (u : Use) → AlikeAs (items_or_itself (with_field name everything u)) c d → shape_of (Some c) ≡ shape_of (Some d)
      at nothing a = a.0
      at everything a = ap shape_of a
      at (parts members turns) a = a.0

  where_respects : (target : Option Datum) (c d : Datum) → AlikeAs (items_or_itself V) c d → Both (AlikeAs v) (where_by name target c) (where_by name target d)
  where_respects target c d a = by_shape (λ c d. AlikeAs (items_or_itself V) c d → Both (AlikeAs v) (where_by name target c) (where_by name target d))
      (λ d a. answers_same v _ _ refl)
      (λ ds es a. where_list target (list_of ds) (list_of es) (its_items V ds es a))
      (λ ps qs a. list_alike v _ _ (wanted_alike target (object ps ∷ []) (object qs ∷ []) (itself V ps qs a, tt)))
      c d (shape_before c d a) a

  module _ (key : Option Text → Datum → Key) (key_same : (d e : Datum) → property name d ≡ property name e → key (Some name) d ≡ key (Some name) e) where
    sort_list : (ds es : List Datum) → AlikeLists V ds es
        → Both (AlikeAs v) (cond (all_maps ds) (Ok (list (sort_by (key (Some name)) ds))) (Err InvalidInput)) (cond (all_maps es) (Ok (list (sort_by (key (Some name)) es))) (Err InvalidInput))
    sort_list ds es a = chosen v (all_maps ds) (all_maps es) _ _ _ _ (maps_same name everything (items_wanted v) ds es a)
        (list_alike v _ _ (pairwise_more (AlikeAs V) (AlikeAs (items_wanted v)) (λ x y r. rest_of name everything (items_wanted v) x y r) _ _ (sorted_alike name (items_wanted v) no_length (key (Some name)) key_same ds es a))) refl

    sort_respects : (c d : Datum) → AlikeAs (items_or_itself V) c d → Both (AlikeAs v) (sort_named key name c) (sort_named key name d)
    sort_respects c d a = by_shape (λ c d. AlikeAs (items_or_itself V) c d → Both (AlikeAs v) (sort_named key name c) (sort_named key name d))
        (λ d a. answers_same v _ _ refl)
        (λ ds es a. sort_list (list_of ds) (list_of es) (its_items V ds es a))
        (λ ps qs a. sort_list (object ps ∷ []) (object qs ∷ []) (itself V ps qs a, tt))
        c d (shape_before c d a) a

-- ---- the filters that exist

-- the value of a first argument that is a literal
record IsFirst (name : Text) (arguments : List Datum) : Type 0 where
  first : Datum
  others : List Datum
  all : arguments ≡ first ∷ others
  named : text_of first ≡ name

first_argument : (n : ℕ) (xs : List Expression) (name : Text) (e : Environment) (arguments : List Datum) → literal_first_argument xs ≡ Some name → taken_arguments n xs e ≡ Ok arguments → IsFirst name arguments
unfolding taken_arguments value_of values
first_argument n [] name e arguments h is = absurd cc
first_argument n (variable x steps ∷ xs) name e arguments h is = absurd cc
first_argument zero (literal d ∷ xs) name e arguments h is = at (taken_arguments (0 - 1) xs e) is
  where
    at : (r : Result (List Datum) ErrorKind) → (r >>= (λ ds. Ok (d ∷ ds))) ≡ Ok arguments → IsFirst name arguments
    at (Ok ds) is = record { first = d; others = ds; all = sym (ap (λ r. values r) is); named = ap (λ o. unwrap_or o name) h }
    at (Err kind) is = absurd cc
first_argument (suc n) (literal d ∷ xs) name e arguments h is = at (taken_arguments (suc n - 1) xs e) is
  where
    at : (r : Result (List Datum) ErrorKind) → (r >>= (λ ds. Ok (d ∷ ds))) ≡ Ok arguments → IsFirst name arguments
    at (Ok ds) is = record { first = d; others = ds; all = sym (ap (λ r. values r) is); named = ap (λ o. unwrap_or o name) h }
    at (Err kind) is = absurd cc

no_arguments : (n : ℕ) (e : Environment) (arguments : List Datum) → taken_arguments n [] e ≡ Ok arguments → [] ≡ arguments
unfolding taken_arguments values
no_arguments n e arguments is = ap values is

-- equal inputs where everything is asked, and else what f asks
by_argument : (v : Use) (answer : Datum → List Datum → Result Datum ErrorKind) (f : Text → Use) (n : ℕ) (xs : List Expression) (e : Environment) (arguments : List Datum) → taken_arguments n xs e ≡ Ok arguments
    → ((name : Text) → bytes_eq name (codes "size") ≡ false → (first : Datum) (others : List Datum) → text_of first ≡ name → (c d : Datum) → AlikeAs (f name) c d → Both (AlikeAs v) (answer c (first ∷ others)) (answer d (first ∷ others)))
    → (c d : Datum) → AlikeAs (by_property (literal_first_argument xs) f) c d → Both (AlikeAs v) (answer c arguments) (answer d arguments)
by_argument v answer f n xs e arguments is k c d a = at (literal_first_argument xs) refl a
  where
    equal : Some c ≡ Some d → Both (AlikeAs v) (answer c arguments) (answer d arguments)
    equal a = answers_same v _ _ (ap (λ o. answer (unwrap_or o nil) arguments) a)

    named : (name : Text) → literal_first_argument xs ≡ Some name → (b : Bool) → same_text name (codes "size") ≡ b → AlikeAs (cond b everything (f name)) c d → Both (AlikeAs v) (answer c arguments) (answer d arguments)
    named name h true no_length a = equal a
    named name h false no_length a =
        let r = first_argument n xs name e arguments h is in
        subst (λ zs. Both (AlikeAs v) (answer c zs) (answer d zs)) (sym r.all) (k name no_length r.first r.others r.named c d a)

    at : (o : Option Text) → literal_first_argument xs ≡ o → AlikeAs (by_property o f) c d → Both (AlikeAs v) (answer c arguments) (answer d arguments)
    at None h a = equal a
    at (Some name) h a = named name h (same_text name (codes "size")) refl a

kind_respects : (kind : FilterKind) (n : ℕ) (xs : List Expression) (v : Use) (e : Environment) (arguments : List Datum) → taken_arguments n xs e ≡ Ok arguments
    → (c d : Datum) → AlikeAs (kind_needs kind xs v) c d → Both (AlikeAs v) (kind_answer kind c arguments) (kind_answer kind d arguments)
kind_respects Size n xs v e arguments is c d a = answers_same v _ _ (ap (λ n. Ok (counted n)) (same_size nothing c d a))
kind_respects First n xs v e arguments is c d a = first_respects v arguments c d a
kind_respects Last n xs v e arguments is c d a = last_respects v arguments c d a
kind_respects Reverse n xs v e arguments is c d a = reverse_respects v arguments c d a
kind_respects Concat n xs v e arguments is c d a = concat_respects v arguments c d a
kind_respects Map n xs v e arguments is c d a = by_argument v map_answer _ n xs e arguments is
    (λ name no_length first others h c d a. subst (λ t. Both (AlikeAs v) (of_list (mapped_property t) c) (of_list (mapped_property t) d)) (sym h) (map_respects name v c d no_length a)) c d a
kind_respects Where n xs v e arguments is c d a = by_argument v where_answer _ n xs e arguments is
    (λ name no_length first others h c d a. subst (λ t. Both (AlikeAs v) (where_by t (first_of others) c) (where_by t (first_of others) d)) (sym h) (where_respects name v no_length (first_of others) c d a)) c d a
kind_respects Sort n xs v e arguments is c d a = by_argument v sort_answer _ n xs e arguments is
    (λ name no_length first others h c d a. subst (λ t. Both (AlikeAs v) (sort_named key_of t c) (sort_named key_of t d)) (sym h)
    (sort_respects name v no_length key_of (λ d e p. ap (option_and_then sort_key) p) c d a)) c d a
kind_respects SortNatural n xs v e arguments is c d a = by_argument v sort_natural_answer _ n xs e arguments is
    (λ name no_length first others h c d a. subst (λ t. Both (AlikeAs v) (sort_named natural_key_of t c) (sort_named natural_key_of t d)) (sym h)
    (sort_respects name v no_length natural_key_of (λ d e p. ap (λ o. option_map (λ x. text (lower_case (text_of x))) (option_and_then sort_key o)) p) c d a)) c d a
kind_respects Compact n [] v e arguments is c d a =
    subst (λ zs. Both (AlikeAs v) (compact_answer c zs) (compact_answer d zs)) (no_arguments n e arguments is) (compact_respects v c d a)
kind_respects Compact n (x ∷ xs) v e arguments is c d a = by_argument v compact_answer _ n (x ∷ xs) e arguments is
    (λ name no_length first others h c d a. subst (λ t. Both (AlikeAs v) (compact_by t c) (compact_by t d)) (sym h) (given_respects v name no_length c d a)) c d a
kind_respects Default n xs v e arguments is c d a = default_respects v arguments c d a
kind_respects kind n xs v e arguments is c d a = answers_same v _ _ (ap (λ o. kind_answer kind (unwrap_or o nil) arguments) a)

respected : (named : Text → FilterAnswer) (filter : Filter) (n : ℕ) (xs : List Expression) (v : Use) (e : Environment) (arguments : List Datum) → taken_arguments n xs e ≡ Ok arguments
    → (c d : Datum) → AlikeAs (filter_needs filter xs v) c d → Both (AlikeAs v) (answers_with named filter c arguments) (answers_with named filter d arguments)
respected named (existing kind) n xs v e arguments is c d a = kind_respects kind n xs v e arguments is c d a
respected named (hosted name) n xs v e arguments is c d a = answers_same v _ _ (ap (λ o. named name (unwrap_or o nil) arguments) a)

pub known_respected : KnownRespected
known_respected named call v e arguments is c d a = respected named call.filter call.required call.arguments v e arguments is c d a

-- The laws of these filters.
use Rattle.std.proofs.Common.{◌≡◌, ℕ, suc, ◌==◌, inl, inr, Bool, true, false, List, [], ◌∷◌, ◌++◌, length, take, drop, map, codes, Result, Ok, Err, ap, refl, sym, subst, ◌∙◌, arith, append_assoc, append-nil, if◌then◌else◌}
use Rattle.std.proofs.lemmas.Bool.Decides.{nat_tests}
use Rattle.std.specs.Char.{to_ascii_lowercase}
use Rattle.std.specs.Str.{chars, encode_utf8_all, trim}
use Rattle.liquid_model.specs.Answer.{IsTheOne}
use Rattle.liquid_model.specs.Data.{Datum, text, array, Items, no_items, item, text_of}
use Rattle.liquid_model.specs.Fallible.{◌>>=◌}
use Rattle.liquid_model.specs.Lists.{list_of}
use Rattle.liquid_model.specs.Texts.{Text}
use Rattle.liquid_model.specs.View.{items_of}
use Rattle.liquid_model.specs.declared.error.ErrorKind.{ErrorKind}
use Rattle.liquid_model.specs.declared.error.ErrorKind.TheVariants.{InvalidInput}
use Rattle.liquid_model.specs.Arguments.{Answer, first_of, text_or}
use Rattle.liquid_model.proofs.Ones.{one, image_one, same_one, either_one}
use Rattle.liquid_filters.specs.ListLaws.{Lists}
use Rattle.liquid_filters.specs.Sequences.{list, sequence, all_maps, is_map}
use Rattle.liquid_filters.specs.Sorting.{Key, insert_in_order, sort_by, sorted}
use Rattle.liquid_filters.proofs.Keys.{keys_order}
use Rattle.liquid_filters.proofs.ListOnes.{followed_one}
use Rattle.liquid_filters.proofs.Sorts.{sorted_twice, all_sorted}
use Rattle.liquid_filters.proofs.SortsByKey.{sort_one}
use Rattle.liquid_filters.proofs.ListEachLaw.{list_of_items}
use Rattle.liquid_filters.specs.JekyllEnds.{without_last}
use Rattle.liquid_filters.specs.JekyllLaws.{AfterReading, LosesLast, LosesFirst, ContinuesSentence, IsSentence, SortsItems, mode_given, PushIsOne, UnshiftIsOne, PopIsOne, ShiftIsOne, PopUndoesPush, ShiftUndoesUnshift, SentenceIsOne, JekyllSortIsOne, JekyllSortTwiceIsOnce, SlugifyIsOne}
use Rattle.liquid_filters.specs.Runs.{IsSlugOf}
use Rattle.liquid_filters.specs.Sentence.{next_text, next_texts, sentence}
use Rattle.liquid_filters.specs.Slugs.{hyphened, without_outer, keeps, slug}
use Rattle.liquid_filters.specs.JekyllSorting.{found_key, nils_given, path_given, sort_items}
use Rattle.liquid_filters.specs.declared.jekyll.array.sort.Nils.{Nils}
use Rattle.liquid_filters.specs.declared.jekyll.array.sort.Nils.TheVariants.{First}
use Rattle.liquid_filters.specs.declared.jekyll.slugify.Mode.{Mode}
use Rattle.liquid_filters.specs.declared.jekyll.slugify.Mode.TheVariants.{Default}
use Rattle.liquid_filters.proofs.JekyllEnds.{last_lost, less_one}
use Rattle.liquid_filters.proofs.Hyphens.{hyphens_one, cuts_one}
use Rattle.liquid_filters.proofs.PathLaws.{path_one}

abbrev answer : Datum → Answer
answer d = Ok d

lists_one : (R : List Datum → Type 0) (ds : List Datum) → IsTheOne R ds → IsTheOne (Lists R) (answer (list ds))
lists_one R ds h = image_one R (λ l. answer (list l)) ds h

-- what is read, and then done with it
read_one : {X : Type 0} (r : Result X ErrorKind) (R : X → Answer → Type 0) (f : X → Answer) → ((x : X) → IsTheOne (R x) (f x)) → IsTheOne (AfterReading r R) (r >>= f)
read_one (Ok x) R f h = h x
read_one (Err kind) R f h = same_one (Err kind)

-- ---- ends
pub push_is_one : PushIsOne
push_is_one (array ds) x args = lists_one _ _ (followed_one (list_of ds) (x ∷ []))
push_is_one d x args = same_one (Err InvalidInput)

pub unshift_is_one : UnshiftIsOne
unshift_is_one (array ds) x args = lists_one _ _ (followed_one (x ∷ []) (list_of ds))
unshift_is_one d x args = same_one (Err InvalidInput)

last_of : (d : Datum) (ds : List Datum) → (x : Datum) × (d ∷ ds ≡ take (length ds) (d ∷ ds) ++ x ∷ [])
last_of d [] = (d, refl)
last_of d (e ∷ ds) = let rest = last_of e ds in (rest.0, ap (λ l. d ∷ l) rest.1)

loses_last : (ds : List Datum) → LosesLast ds (without_last ds)
loses_last [] = inr (refl, refl)
loses_last (d ∷ ds) =
    let last = last_of d ds in
    inl (last.0, last.1 ∙ ap (λ n. take n (d ∷ ds) ++ last.0 ∷ []) (sym (less_one (length ds))))

last_unique : (ds out : List Datum) → LosesLast ds out → out ≡ without_last ds
last_unique ds out (inl h) = sym (last_lost out h.0) ∙ ap without_last (sym h.1)
last_unique ds out (inr h) = h.1 ∙ sym (ap without_last h.0)

pub pop_is_one : PopIsOne
pop_is_one (array ds) args = lists_one _ _ (one (LosesLast (list_of ds)) (without_last (list_of ds)) (loses_last (list_of ds)) (last_unique (list_of ds)))
pop_is_one d args = same_one (Err InvalidInput)

loses_first : (ds : List Datum) → LosesFirst ds (drop 1 ds)
loses_first [] = inr (refl, refl)
loses_first (d ∷ ds) = inl (d, refl)

first_unique : (ds out : List Datum) → LosesFirst ds out → out ≡ drop 1 ds
first_unique ds out (inl h) = sym (ap (drop 1) h.1)
first_unique ds out (inr h) = h.1 ∙ sym (ap (drop 1) h.0)

pub shift_is_one : ShiftIsOne
shift_is_one (array ds) args = lists_one _ _ (one (LosesFirst (list_of ds)) (drop 1 (list_of ds)) (loses_first (list_of ds)) (first_unique (list_of ds)))
shift_is_one d args = same_one (Err InvalidInput)

-- ---- back again
items_of_list : (ds : Items) → items_of (list_of ds) ≡ ds
items_of_list no_items = refl
items_of_list (item d ds) = ap (λ l. item d l) (items_of_list ds)

popped : (ds : Items) (x e : Datum) → answer (list (list_of ds ++ x ∷ [])) ≡ answer e → answer (list (without_last (sequence e))) ≡ answer (array ds)
popped ds x e h =
    let f : e ≡ list (list_of ds ++ x ∷ []) = cc in
    ap (λ d. answer (list (without_last (sequence d)))) f
    ∙ ap (λ l. answer (list (without_last l))) (list_of_items (list_of ds ++ x ∷ []))
    ∙ ap (λ l. answer (list l)) (last_lost (list_of ds) x) ∙ ap (λ l. answer (array l)) (items_of_list ds)

shifted : (ds : Items) (x e : Datum) → answer (list (x ∷ list_of ds)) ≡ answer e → answer (list (drop 1 (sequence e))) ≡ answer (array ds)
shifted ds x e h =
    let f : e ≡ list (x ∷ list_of ds) = cc in
    ap (λ d. answer (list (drop 1 (sequence d)))) f ∙ ap (λ l. answer (list (drop 1 l))) (list_of_items (x ∷ list_of ds)) ∙ ap (λ l. answer (array l)) (items_of_list ds)

pub pop_undoes_push : PopUndoesPush
pop_undoes_push (array ds) x (array es) h = popped ds x (array es) h
pop_undoes_push (array ds) x e h = cc
pop_undoes_push d x e h = cc

pub shift_undoes_unshift : ShiftUndoesUnshift
shift_undoes_unshift (array ds) x (array es) h = shifted ds x (array es) h
shift_undoes_unshift (array ds) x e h = cc
shift_undoes_unshift d x e h = cc

-- ---- sentences
not_zero : (n : ℕ) → (suc n == 0) ≡ false
not_zero n = grind (arith, nat_tests)

inside : (connector t u : Text) (ts : List Text) → next_texts connector (t ∷ (u ∷ ts)) ≡ codes ", " ++ (t ++ next_texts connector (u ∷ ts))
inside connector t u ts =
    ap (λ b. next_text connector b t ++ next_texts connector (u ∷ ts)) (not_zero (length ts)) ∙ append_assoc (codes ", ") t (next_texts connector (u ∷ ts))

goes_on : (connector : Text) (ts : List Text) → IsTheOne (ContinuesSentence connector ts) (next_texts connector ts)
goes_on connector [] = same_one []
goes_on connector (t ∷ []) = λ s. (λ e. e ∙ sym (append-nil (codes ", " ++ (connector ++ (codes " " ++ t)))), λ e. e ∙ append-nil (codes ", " ++ (connector ++ (codes " " ++ t))))
goes_on connector (t ∷ (u ∷ ts)) =
    let rest = next_texts connector (u ∷ ts) in
    let h = goes_on connector (u ∷ ts) in
    let e = inside connector t u ts in
    one (ContinuesSentence connector (t ∷ (u ∷ ts))) (next_texts connector (t ∷ (u ∷ ts))) (rest, e, (h rest).1 refl) (λ s m. m.1 ∙ ap (λ r. codes ", " ++ (t ++ r)) ((h m.0).0 m.2) ∙ sym e)

sentence_one : (connector : Text) (ts : List Text) → IsTheOne (IsSentence connector ts) (sentence connector ts)
sentence_one connector [] = same_one []
sentence_one connector (t ∷ ts) =
    let rest = next_texts connector ts in
    let h = goes_on connector ts in
    one (IsSentence connector (t ∷ ts)) (sentence connector (t ∷ ts)) (rest, refl, (h rest).1 refl) (λ s m. m.1 ∙ ap (λ r. t ++ r) ((h m.0).0 m.2))

pub sentence_is_one : SentenceIsOne
sentence_is_one (array ds) args = image_one (IsSentence (text_or (codes "and") args) (map text_of (list_of ds))) (λ s. Ok (text s)) _ (sentence_one _ _)
sentence_is_one d args = same_one (Err InvalidInput)

-- ---- sorts
pub items_sort : (ds args : List Datum) → IsTheOne (SortsItems ds args) (sort_items ds args)
items_sort ds [] = lists_one _ _ (sort_one (found_key First []) ds)
items_sort ds (name ∷ args) =
    either_one (all_maps ds) _ _ _ _
    (read_one (nils_given (first_of args)) _ _ (λ nils. path_one (text_of name) _ _ (λ p. lists_one _ _ (sort_one (found_key nils p) ds))))
    (same_one (Err InvalidInput))

pub sort_is_one : JekyllSortIsOne
sort_is_one d args = either_one (length (sequence d) == 0) _ _ _ _ (same_one (Err InvalidInput)) (items_sort (sequence d) args)

placed_length : (lt : Datum → Datum → Bool) (x : Datum) (ys : List Datum) → length (insert_in_order lt x ys) ≡ suc (length ys)
placed_length lt x [] = refl
placed_length lt x (y ∷ ys) = either (lt y x) (placed_length lt x ys)
  where
    either : (t : Bool) → length (insert_in_order lt x ys) ≡ suc (length ys) → length (if t then y ∷ insert_in_order lt x ys else x ∷ y ∷ ys) ≡ suc (suc (length ys))
    either true e = ap suc e
    either false e = refl

sorted_length : (lt : Datum → Datum → Bool) (xs : List Datum) → length (sorted lt xs) ≡ length xs
sorted_length lt [] = refl
sorted_length lt (x ∷ xs) = placed_length lt x (sorted lt xs) ∙ ap suc (sorted_length lt xs)

once : (key : Datum → Key) (ds : List Datum) → sort_by key (list_of (items_of (sort_by key ds))) ≡ sort_by key ds
once key ds = ap (sort_by key) (list_of_items (sort_by key ds)) ∙ sorted_twice _ (keys_order key) ds

same_emptiness : (key : Datum → Key) (ds : List Datum) → (length (list_of (items_of (sort_by key ds))) == 0) ≡ (length ds == 0)
same_emptiness key ds = ap (λ l. length l == 0) (list_of_items (sort_by key ds)) ∙ ap (λ n. n == 0) (sorted_length _ ds)

same_maps : (key : Datum → Key) (ds : List Datum) → all_maps (list_of (items_of (sort_by key ds))) ≡ all_maps ds
same_maps key ds = ap all_maps (list_of_items (sort_by key ds)) ∙ all_sorted _ is_map ds

abbrev no : Answer
no = Err InvalidInput

abbrev by_items : List Datum → List Datum → Answer
by_items ds args = if length ds == 0 then no else sort_items ds args

abbrev by_key : (Datum → Key) → List Datum → Answer
by_key key ds = answer (list (sort_by key ds))

again : (key : Datum → Key) (ds : List Datum) → (length ds == 0) ≡ false
    → (if length (list_of (items_of (sort_by key ds))) == 0 then no else by_key key (list_of (items_of (sort_by key ds)))) ≡ by_key key ds
again key ds h =
    ap (λ b. if b then no else by_key key (list_of (items_of (sort_by key ds)))) (same_emptiness key ds ∙ h) ∙ ap (λ l. answer (list l)) (once key ds)

again_maps : (key : Datum → Key) (ds : List Datum) → (length ds == 0) ≡ false → all_maps ds ≡ true
    → (if length (list_of (items_of (sort_by key ds))) == 0 then no else (if all_maps (list_of (items_of (sort_by key ds))) then by_key key (list_of (items_of (sort_by key ds))) else no)) ≡ by_key key ds
again_maps key ds h m =
    ap (λ b. if b then no else (if all_maps (list_of (items_of (sort_by key ds))) then by_key key (list_of (items_of (sort_by key ds))) else no)) (same_emptiness key ds ∙ h)
    ∙ ap (λ b. if b then by_key key (list_of (items_of (sort_by key ds))) else no) (same_maps key ds ∙ m) ∙ ap (λ l. answer (list l)) (once key ds)

abbrev by_path : List Datum → Result Nils ErrorKind → Result (List Datum) ErrorKind → Answer
by_path ds r q = r >>= (λ n. q >>= (λ p. by_key (found_key n p) ds))

twice_maps : (ds : List Datum) (e : Datum) (m : Bool) (r : Result Nils ErrorKind) (q : Result (List Datum) ErrorKind) → all_maps ds ≡ m → (length ds == 0) ≡ false
    → (if m then by_path ds r q else no) ≡ answer e
    → (if length (sequence e) == 0 then no else (if all_maps (sequence e) then by_path (sequence e) r q else no)) ≡ answer e
twice_maps ds e false r q m h g = cc
twice_maps ds e true (Err k) q m h g = cc
twice_maps ds e true (Ok n) (Err k) m h g = cc
twice_maps ds e true (Ok n) (Ok p) m h g =
    let f : e ≡ list (sort_by (found_key n p) ds) = cc in
    subst (λ x. (if length (sequence x) == 0 then no else (if all_maps (sequence x) then by_key (found_key n p) (sequence x) else no)) ≡ answer x) (sym f)
    (again_maps (found_key n p) ds h m)

twice_items : (ds : List Datum) (e : Datum) (args : List Datum) → (length ds == 0) ≡ false → sort_items ds args ≡ answer e → by_items (sequence e) args ≡ answer e
twice_items ds e [] h g =
    let f : e ≡ list (sort_by (found_key First []) ds) = cc in
    subst (λ x. (if length (sequence x) == 0 then no else by_key (found_key First []) (sequence x)) ≡ answer x) (sym f) (again (found_key First []) ds h)
twice_items ds e (name ∷ args) h g = twice_maps ds e (all_maps ds) (nils_given (first_of args)) (path_given (text_of name)) refl h g

twice_by : (ds : List Datum) (e : Datum) (args : List Datum) (b : Bool) → (length ds == 0) ≡ b → (if b then no else sort_items ds args) ≡ answer e → by_items (sequence e) args ≡ answer e
twice_by ds e args true h g = cc
twice_by ds e args false h g = twice_items ds e args h g

pub sort_twice_is_once : JekyllSortTwiceIsOnce
sort_twice_is_once d e args h = twice_by (sequence d) e args (length (sequence d) == 0) refl h

-- ---- slugs
slug_one : (mode : Mode) (s : Text) → IsTheOne (IsSlugOf mode s) (slug mode s)
slug_one mode s = λ t. (slug_unique t, slug_stands t)
  where
    slug_unique : (t : Text) → IsSlugOf mode s t → t ≡ slug mode s
    slug_unique t h =
        h.4 ∙ ap (λ cs. map to_ascii_lowercase (encode_utf8_all cs)) ((cuts_one h.0 h.1).0 h.3 ∙ ap without_outer ((hyphens_one (keeps mode) (chars (trim s)) h.0).0 h.2))

    slug_stands : (t : Text) → t ≡ slug mode s → IsSlugOf mode s t
    slug_stands t e =
        let ds = hyphened (keeps mode) false (chars (trim s)) in
        (ds, without_outer ds, (hyphens_one (keeps mode) (chars (trim s)) ds).1 refl, (cuts_one ds (without_outer ds)).1 refl, e)

pub slugify_is_one : SlugifyIsOne
slugify_is_one d [] = image_one (IsSlugOf Default (text_of d)) (λ s. Ok (text s)) _ (slug_one Default (text_of d))
slugify_is_one d (name ∷ args) = read_one (mode_given (name ∷ args)) _ _ (λ mode. image_one (IsSlugOf mode (text_of d)) (λ s. Ok (text s)) _ (slug_one mode (text_of d)))

-- Records that are taken one after another.
use Rattle.std.specs.Prelude.{◌≡◌, ◌⊎◌, ℕ, ◌||◌, Bool, true, false, cond, List, [], ◌∷◌, ◌++◌, bytes_eq, ⊤, Option, Some, None, IsSome, Result, Ok, Err}
use Rattle.std.proofs.Common.{inl, inr}
use Rattle.std.specs.List.{list_any}
use Rattle.std.specs.Map.{update}
use Rattle.std.proofs.lemmas.Slice.Eq.{bytes_eq-Decides}
use mathlib.Core.Path.{refl, sym, ap, subst, ◌∙◌}
use Rattle.liquid_model.specs.Data.{Pairs}
use Rattle.liquid_model.specs.Maps.{insert}
use Rattle.liquid_model.specs.Texts.{Text}
use Rattle.liquid_model.specs.declared.error.ErrorKind.{ErrorKind}
use Rattle.liquid_files.specs.Files.{File, Files, holds, with_file}
use Rattle.liquid_records.specs.Records.{Made, Reason, limited}
use Rattle.liquid_records.specs.Steps.{EarlierNames, Fate, no_page, again, unwritten, IsNamed, IsTried, Leaves}
use Rattle.liquid_records.specs.Runs.{Records, Stand, IsTaken, IsTakenWithin, AreRecordsTaken, tried, written_names, page_name, page_names, AreApart, HasPage, HavePages}

-- ---- files and names

other_file : (files : Files) (name : Text) (file : File) (q : Text) → bytes_eq name q ≡ false → with_file files name file q ≡ files q
unfolding with_file
other_file files name file q e = ap (λ b. cond b file (files q)) e

own_file : (files : Files) (name : Text) (file : File) → with_file files name file name ≡ file
unfolding with_file
own_file files name file = ap (λ b. cond b file (files name)) ((bytes_eq-Decides name name).1 refl)

own_name : (names : EarlierNames) (name : Text) (n : ℕ) → IsSome (insert names name n name)
unfolding insert
own_name names name n = subst (λ b. IsSome (cond b (Some n) (names name))) (sym ((bytes_eq-Decides name name).1 refl)) refl

name_stays : (names : EarlierNames) (name : Text) (n : ℕ) (q : Text) → IsSome (names q) → IsSome (insert names name n q)
unfolding insert
name_stays names name n q s = at (bytes_eq name q)
  where
    at : (b : Bool) → IsSome (cond b (Some n) (names q))
    at true = refl
    at false = s

-- a text that has no value isn't one that has
apart : (names : EarlierNames) (q name : Text) → IsSome (names q) → names name ≡ None → bytes_eq q name ≡ false
apart names q name s none = at (bytes_eq q name) refl
  where
    at : (b : Bool) → bytes_eq q name ≡ b → b ≡ false
    at true e = sym (subst (λ o. IsSome o) (ap names ((bytes_eq-Decides q name).0 e) ∙ none) s)
    at false e = refl

turned : (a b : Text) → bytes_eq a b ≡ false → bytes_eq b a ≡ false
turned a b h = at (bytes_eq b a) refl
  where
    at : (t : Bool) → bytes_eq b a ≡ t → t ≡ false
    at true e = sym ((bytes_eq-Decides a b).1 (sym ((bytes_eq-Decides b a).0 e))) ∙ h
    at false e = refl

abbrev file_or : Files → Option Files → Files
file_or none None = none
file_or none (Some files) = files

same_files : (a b : Files) → Some a ≡ Some b → a ≡ b
same_files a b e = ap (file_or a) e

or_both : (a b : Bool) → (a || false) ≡ false → b ≡ false → (a || b) ≡ false
or_both true b h k = h
or_both false b h k = k

or_split : (a b : Bool) → (a || b) ≡ false → ((a || false) ≡ false) × (b ≡ false)
or_split true true h = (h, h)
or_split true false h = (h, refl)
or_split false b h = (refl, h)

-- ---- one record

-- it leaves the names and the files, or it writes the file of a name that didn't come before, or tries to
data Does (n : ℕ) (old : Stand) (f : Fate) (new : Stand) : Type 0 where
  nothing : tried f ≡ [] → new.names ≡ old.names → new.files ≡ old.files → Does n old f new
  a_file : (name : Text) → tried f ≡ name ∷ [] → old.names name ≡ None → new.names ≡ insert old.names name n
      → ((q : Text) → bytes_eq name q ≡ false → new.files q ≡ old.files q) → Does n old f new

does : (made : Result Made Reason) (n : ℕ) (old : Stand) (f : Fate) (new : Stand) → IsTaken made n old f new → Does n old f new
does (Err why) n old f new t =
    let left = subst (λ g. Leaves (Err why) g old.files (Some new.files)) t.step.0 t.left in
    subst (λ g. Does n old g new) (sym t.step.0) (nothing refl t.step.1 (same_files new.files old.files left))
does (Ok made) n old f new t = by_name (old.names made.name) refl t.step
  where
    left_by : (g : Fate) → f ≡ g → Leaves (Ok made) g old.files (Some new.files)
    left_by g e = subst (λ h. Leaves (Ok made) h old.files (Some new.files)) e t.left

    written : f ≡ Ok made.name → (q : Text) → bytes_eq made.name q ≡ false → new.files q ≡ old.files q
    written e q d = ap (λ fs. fs q) (same_files new.files (with_file old.files made.name (holds made.text)) (left_by (Ok made.name) e)) ∙ other_file old.files made.name (holds made.text) q d

    refused : f ≡ Err (unwritten made.name) → (q : Text) → bytes_eq made.name q ≡ false → new.files q ≡ old.files q
    refused e q d = ap (λ fs. fs q) (same_files new.files old.files (left_by (Err (unwritten made.name)) e))

    tries : old.names made.name ≡ None → new.names ≡ insert old.names made.name n → IsTried made.name f → Does n old f new
    tries none set (inl e) = subst (λ g. Does n old g new) (sym e) (a_file made.name refl none set (written e))
    tries none set (inr e) = subst (λ g. Does n old g new) (sym e) (a_file made.name refl none set (refused e))

    by_name : (o : Option ℕ) → old.names made.name ≡ o → IsNamed n made.name o old.names f new.names → Does n old f new
    by_name (Some before) e s = subst (λ g. Does n old g new) (sym s.0) (nothing refl s.1 (same_files new.files old.files (left_by (Err (again made.name before)) s.0)))
    by_name None e s = tries e s.1 s.0

module _ {n : ℕ} {old : Stand} {f : Fate} {new : Stand} where
  names_stay : Does n old f new → (q : Text) → IsSome (old.names q) → IsSome (new.names q)
  names_stay (nothing e same left) q s = subst (λ m. IsSome (m q)) (sym same) s
  names_stay (a_file name e none set left) q s = subst (λ m. IsSome (m q)) (sym set) (name_stays old.names name n q s)

  untried : Does n old f new → (q : Text) → IsSome (old.names q) → list_any (bytes_eq q) (tried f) ≡ false
  untried (nothing e same left) q s = ap (list_any (bytes_eq q)) e
  untried (a_file name e none set left) q s = ap (list_any (bytes_eq q)) e ∙ ap (λ b. b || false) (apart old.names q name s none)

  file_stays : Does n old f new → (q : Text) → list_any (bytes_eq q) (tried f) ≡ false → new.files q ≡ old.files q
  file_stays (nothing e same left) q h = ap (λ fs. fs q) left
  file_stays (a_file name e none set left) q h = left q (turned q name (one (bytes_eq q name) (sym (ap (list_any (bytes_eq q)) e) ∙ h)))
    where
      one : (b : Bool) → (b || false) ≡ false → b ≡ false
      one true k = k
      one false k = refl

  joined : Does n old f new → (q : Text) (names : List Text) → list_any (bytes_eq q) (tried f) ≡ false → list_any (bytes_eq q) names ≡ false → list_any (bytes_eq q) (tried f ++ names) ≡ false
  joined (nothing e same left) q names h k = ap (λ l. list_any (bytes_eq q) (l ++ names)) e ∙ k
  joined (a_file name e none set left) q names h k =
      ap (λ l. list_any (bytes_eq q) (l ++ names)) e ∙ or_both (bytes_eq q name) (list_any (bytes_eq q) names) (sym (ap (list_any (bytes_eq q)) e) ∙ h) k

  -- its name is apart from those that come later, which are apart
  set_apart : Does n old f new → (names : List Text) → ((q : Text) → IsSome (new.names q) → list_any (bytes_eq q) names ≡ false) → AreApart names → AreApart (tried f ++ names)
  set_apart (nothing e same left) names later are = subst (λ l. AreApart (l ++ names)) (sym e) are
  set_apart (a_file name e none set left) names later are =
      subst (λ l. AreApart (l ++ names)) (sym e) (later name (subst (λ m. IsSome (m name)) (sym set) (own_name old.names name n)), are)

-- a file that no page was written into
page_stays : (made : Result Made Reason) (n : ℕ) (old : Stand) (f : Fate) (new : Stand) → IsTaken made n old f new → (q : Text) → list_any (bytes_eq q) (page_name f) ≡ false → new.files q ≡ old.files q
page_stays made n old (Ok name) new t q h = file_stays (does made n old (Ok name) new t) q h
page_stays (Err why) n old (Err e) new t q h = ap (λ fs. fs q) (same_files new.files old.files t.left)
page_stays (Ok made) n old (Err e) new t q h = ap (λ fs. fs q) (same_files new.files old.files t.left)

split_page : (q : Text) (f : Fate) (names : List Text) → list_any (bytes_eq q) (page_name f ++ names) ≡ false → (list_any (bytes_eq q) (page_name f) ≡ false) × (list_any (bytes_eq q) names ≡ false)
split_page q (Ok name) names h = or_split (bytes_eq q name) (list_any (bytes_eq q) names) h
split_page q (Err e) names h = (refl, h)

-- the page that is in its file after one record, where the file stays as it is
has_page : (made : Result Made Reason) (n : ℕ) (old : Stand) (f : Fate) (new : Stand) (files : Files) → IsTaken made n old f new → ((q : Text) → IsSome (new.names q) → files q ≡ new.files q) → HasPage made f files
has_page (Err why) n old f new files t stay = subst (λ g. HasPage (Err why) g files) (sym t.step.0) tt
has_page (Ok made) n old f new files t stay = by_name (old.names made.name) t.step
  where
    there : new.names ≡ insert old.names made.name n → f ≡ Ok made.name → files made.name ≡ holds made.text
    there set e =
        stay made.name (subst (λ m. IsSome (m made.name)) (sym set) (own_name old.names made.name n))
        ∙ ap (λ fs. fs made.name) (same_files new.files (with_file old.files made.name (holds made.text)) (subst (λ h. Leaves (Ok made) h old.files (Some new.files)) e t.left))
        ∙ own_file old.files made.name (holds made.text)

    tries : new.names ≡ insert old.names made.name n → IsTried made.name f → HasPage (Ok made) f files
    tries set (inl e) = subst (λ g. HasPage (Ok made) g files) (sym e) (refl, there set e)
    tries set (inr e) = subst (λ g. HasPage (Ok made) g files) (sym e) tt

    by_name : (o : Option ℕ) → IsNamed n made.name o old.names f new.names → HasPage (Ok made) f files
    by_name (Some before) s = subst (λ g. HasPage (Ok made) g files) (sym s.0) tt
    by_name None s = tries s.1 s.0

-- ---- one record, whose page a limit may have ended

module _ (limit : Bool) (made : Result Made Reason) (n : ℕ) (old : Stand) where
  does_within : (f : Fate) (new : Stand) → IsTakenWithin limit made n old f new → Does n old f new
  does_within f new (inl t) = does made n old f new t
  does_within f new (inr t) = does (Err limited) n old f new t.1

  page_stays_within : (f : Fate) (new : Stand) → IsTakenWithin limit made n old f new → (q : Text) → list_any (bytes_eq q) (page_name f) ≡ false → new.files q ≡ old.files q
  page_stays_within f new (inl t) q h = page_stays made n old f new t q h
  page_stays_within f new (inr t) q h = page_stays (Err limited) n old f new t.1 q h

  -- no page is there where a limit ended it
  no_page_within : (m : Result Made Reason) (f : Fate) (files : Files) → f ≡ Err (no_page limited) → HasPage m f files
  no_page_within (Ok made) f files e = subst (λ g. HasPage (Ok made) g files) (sym e) tt
  no_page_within (Err why) f files e = subst (λ g. HasPage (Err why) g files) (sym e) tt

  has_page_within : (f : Fate) (new : Stand) (files : Files) → IsTakenWithin limit made n old f new → ((q : Text) → IsSome (new.names q) → files q ≡ new.files q) → HasPage made f files
  has_page_within f new files (inl t) stay = has_page made n old f new files t stay
  has_page_within f new files (inr t) stay = no_page_within made f files t.1.step.0

-- ---- all records

module _ (limit : Bool) (comes : Result Pairs ErrorKind → Result Made Reason) where
  -- a name that came is written no more
  later : (records : Records) (old : Stand) (fates : List Fate) (new : Stand) → AreRecordsTaken limit comes records old fates new → (q : Text) → IsSome (old.names q)
      → (list_any (bytes_eq q) (written_names fates) ≡ false) × (new.files q ≡ old.files q)
  later [] old [] new t q s = (refl, ap (λ x. x.files q) t)
  later [] old (f ∷ fs) new t q s = absurd t
  later (r ∷ rs) old [] new t q s = absurd t
  later (r ∷ rs) old (f ∷ fs) new t q s =
      let d = does_within limit (comes r.1) r.0 old f t.0 t.1 in
      let un = untried d q s in
      let rest = later rs t.0 fs new t.2 q (names_stay d q s) in
      (joined d q (written_names fs) un rest.0, rest.1 ∙ file_stays d q un)

  pub never_twice : (records : Records) (old : Stand) (fates : List Fate) (new : Stand) → AreRecordsTaken limit comes records old fates new → AreApart (written_names fates)
  never_twice [] old [] new t = tt
  never_twice [] old (f ∷ fs) new t = absurd t
  never_twice (r ∷ rs) old [] new t = absurd t
  never_twice (r ∷ rs) old (f ∷ fs) new t =
      set_apart (does_within limit (comes r.1) r.0 old f t.0 t.1) (written_names fs) (λ q s. (later rs t.0 fs new t.2 q s).0) (never_twice rs t.0 fs new t.2)

  pub pages_stand : (records : Records) (old : Stand) (fates : List Fate) (new : Stand) → AreRecordsTaken limit comes records old fates new → HavePages comes records fates new.files
  pages_stand [] old [] new t = tt
  pages_stand [] old (f ∷ fs) new t = tt
  pages_stand (r ∷ rs) old [] new t = tt
  pages_stand (r ∷ rs) old (f ∷ fs) new t =
      (has_page_within limit (comes r.1) r.0 old f t.0 new.files t.1 (λ q s. (later rs t.0 fs new t.2 q s).1), pages_stand rs t.0 fs new t.2)

  pub others_stay : (records : Records) (old : Stand) (fates : List Fate) (new : Stand) → AreRecordsTaken limit comes records old fates new → (q : Text) → list_any (bytes_eq q) (page_names fates) ≡ false → new.files q ≡ old.files q
  others_stay [] old [] new t q h = ap (λ x. x.files q) t
  others_stay [] old (f ∷ fs) new t q h = absurd t
  others_stay (r ∷ rs) old [] new t q h = absurd t
  others_stay (r ∷ rs) old (f ∷ fs) new t q h =
      let both = split_page q f (page_names fs) h in
      others_stay rs t.0 fs new t.2 q both.1 ∙ page_stays_within limit (comes r.1) r.0 old f t.0 t.1 q both.0

-- What putting a file leaves of a disk, and what no file that is written leaves.
use Rattle.std.specs.Prelude.{◌≡◌, ℕ, [], ◌∷◌, ◌++◌, not, Bool, true, false, cond, bytes_eq, Option, Some, None, Result, Ok, Err, IfOk, OnErr, OnOk, IfSome, ⊤, MatchBool, option_map, string_bytes}
use Rattle.std.proofs.Common.{append_assoc}
use Rattle.std.proofs.lemmas.Slice.Eq.{bytes_eq-Decides}
use mathlib.Core.Path.{refl, sym, ap, subst, fun_ext, ◌∙◌}
use Rattle.std.proofs.lemmas.Bool.{or_parts}
use Rattle.liquid_model.specs.ErrorKinds.{is_memory}
use Rattle.liquid_model.specs.Texts.{Text}
use Rattle.liquid_model.specs.declared.error.Error.{Error}
use Rattle.liquid_engine.specs.Pages.{Shown}
use Rattle.liquid_site.specs.Contents.{Pages}
use Rattle.liquid_site.specs.Steps.{saturated_sum}
use Rattle.liquid_site.specs.Written.{all_written, count_from, is_page_path, KeepsOtherFiles, unwritten_message, IsUnwritten, TellsUnwritten}
use Rattle.liquid_files.specs.Files.{File, Files, gone, holds, unreadable, with_file, is_held, IsPut}
use Rattle.liquid_files.specs.declared.disk.DiskFault.{DiskFault}
use Rattle.liquid_site.specs.inside.Needed.{NeededUnlessMemory, TellsWhyUnlessMemory}

pub file_there : (files : Files) (path : Text) (file : File) → files path ≡ file → with_file files path file ≡ files
unfolding with_file
file_there files path file h = fun_ext (λ q. at q (bytes_eq path q) refl)
  where
    at : (q : Text) (b : Bool) → bytes_eq path q ≡ b → cond b file (files q) ≡ files q
    at q true e = sym h ∙ ap files ((bytes_eq-Decides path q).0 e)
    at q false e = refl

holding : (file : File) (text : Text) → is_held file text ≡ true → file ≡ holds text
holding (holds held) text k = ap holds ((bytes_eq-Decides held text).0 k)
holding gone text k = absurd cc
holding unreadable text k = absurd cc

-- nothing changed, whatever is answered
pub stays : {X : Type 0} (o : Option Files) (r : Result X Error) → IfSome o (λ f. OnErr r (o ≡ Some f))
stays None r = tt
stays (Some f) (Ok x) = tt
stays (Some f) (Err e) = refl

-- nothing is said where there is no fault
pub nothing : (o : Option Files) → IfSome o (λ f. ⊤)
nothing None = tt
nothing (Some f) = tt

pub already : (o : Option Files) (path given text : Text) (b : Bool) → given ≡ path → IfSome o (λ f. b ≡ is_held (f given) text) → b ≡ true → IfSome o (λ f. o ≡ Some (with_file f path (holds text)))
already None path given text b is h k = tt
already (Some f) path given text b is h k = ap Some (sym (file_there f path (holds text) (holding (f path) text (ap (λ p. is_held (f p) text) (sym is) ∙ sym h ∙ k))))

-- a fault says nothing of what holds where there is none
pub no_more : {X : Type 0} (o : Option Files) (r : Result X Error) (e : Error) (P : Files → Type 0) → r ≡ Err e → IfSome o (λ f. OnOk r (P f))
no_more None r e P failed = tt
no_more (Some f) r e P failed = subst (λ x. OnOk x (P f)) (sym failed) tt

pub none_if_err : {X : Type 0} (o : Option Files) (r : Result X Error) (e : Error) (P : Files → X → Type 0) → r ≡ Err e → IfSome o (λ f. IfOk r (P f))
none_if_err None r e P failed = tt
none_if_err (Some f) r e P failed = subst (λ x. IfOk x (P f)) (sym failed) tt

-- ---- a file that is written

-- nothing changed where the disk refuses it
pub put_kept : {X : Type 0} (o v : Option Files) (path text : Text) (r : Result (Unit {0}) DiskFault) (why : DiskFault) (s : Result X Error) → r ≡ Err why → IfSome o (λ f. IsPut path text f r v) → IfSome o (λ f. OnErr s (v ≡ Some f))
put_kept None v path text r why s is put = tt
put_kept (Some f) v path text r why (Ok x) is put = tt
put_kept (Some f) v path text r why (Err e) is put = subst (λ a. IsPut path text f a v) is put

pub put_same : (o v : Option Files) (path text : Text) (r : Result (Unit {0}) DiskFault) (why : DiskFault) → r ≡ Err why → IfSome o (λ f. IsPut path text f r v) → IfSome o (λ f. v ≡ Some f)
put_same None v path text r why is put = tt
put_same (Some f) v path text r why is put = subst (λ a. IsPut path text f a v) is put

-- it holds the text where the disk takes it
pub put_there : (o v : Option Files) (path given text : Text) (r : Result (Unit {0}) DiskFault) (u : Unit {0}) → given ≡ path → r ≡ Ok u → IfSome o (λ f. IsPut given text f r v) → IfSome o (λ f. v ≡ Some (with_file f path (holds text)))
put_there None v path given text r u is taken put = tt
put_there (Some f) v path given text (Ok w) u is taken put = put ∙ (λ i. Some (with_file f (is i) (holds text)))
put_there (Some f) v path given text (Err e) u is taken put = absurd cc

held_other : (f : Files) (path given text : Text) (b : Bool) → given ≡ path → b ≡ is_held (f given) text → b ≡ false → is_held (f path) text ≡ false
held_other f path given text b is held_is other = sym (ap (λ p. is_held (f p) text) is) ∙ sym held_is ∙ other

-- it held another text
pub is_needed : (o : Option Files) (path given text : Text) (b : Bool) → given ≡ path → IfSome o (λ f. b ≡ is_held (f given) text) → b ≡ false → IfSome o (λ f. true ≡ not (is_held (f path) text))
is_needed None path given text b is held_is other = tt
is_needed (Some f) path given text b is held_is other = sym (ap not (held_other f path given text b is held_is other))

pub stays_needed : (o : Option Files) (path given text : Text) (b : Bool) (e : Error) → given ≡ path → IfSome o (λ f. b ≡ is_held (f given) text) → b ≡ false → IfSome o (λ f. NeededUnlessMemory (f path) text e)
stays_needed None path given text b e is held_is other = tt
stays_needed (Some f) path given text b e is held_is other = at (is_memory e.kind)
  where
    at : (m : Bool) → MatchBool m ⊤ (is_held (f path) text ≡ false)
    at true = tt
    at false = held_other f path given text b is held_is other

-- ---- pages so far

-- after some of the pages were written: these are the front of the whole, what is left gives what the whole gives, and no other file changed
pub record IsOn (out : Text) (all left : Pages) (n : ℕ) (old new : Files) : Type 0 where
  pub written : all_written out left new ≡ all_written out all old
  pub counted : count_from n out left new ≡ count_from 0 out all old
  pub done : Pages
  pub split : all ≡ done ++ left
  pub so_far : new ≡ all_written out done old
  pub later : (q : Text) → is_page_path out all q ≡ false → is_page_path out left q ≡ false
  pub others : (q : Text) → is_page_path out all q ≡ false → new q ≡ old q

abbrev pub Progress : Text → Pages → Pages → ℕ → Files → Option Files → Type 0
Progress out all left n old None = ⊥
Progress out all left n old (Some new) = IsOn out all left n old new

elsewhere : (f : Files) (path q : Text) (file : File) → bytes_eq path q ≡ false → with_file f path file q ≡ f q
unfolding with_file
elsewhere f path q file h = ap (λ b. cond b file (f q)) h

-- a page's file alone changes
others_kept : (out : Text) (all rest : Pages) (p : Text × Shown) (n : ℕ) (old g : Files) (file : File) → IsOn out all (p ∷ rest) n old g → (q : Text) → is_page_path out all q ≡ false → with_file g (out ++ p.0) file q ≡ old q
others_kept out all rest p n old g file on q h = elsewhere g (out ++ p.0) q file (or_parts (bytes_eq (out ++ p.0) q) (is_page_path out rest q) (on.later q h)).0 ∙ on.others q h

written_last : (out : Text) (ps : Pages) (p : Text × Shown) (old : Files) → all_written out (ps ++ p ∷ []) old ≡ with_file (all_written out ps old) (out ++ p.0) (holds p.1.text)
written_last out [] p old = refl
written_last out (q ∷ qs) p old = written_last out qs p (with_file old (out ++ q.0) (holds q.1.text))

step : (out : Text) (all rest : Pages) (p : Text × Shown) (n m : ℕ) (old g : Files) → IsOn out all (p ∷ rest) n old g → m ≡ cond (is_held (g (out ++ p.0)) p.1.text) n (saturated_sum n 1)
    → IsOn out all rest m old (with_file g (out ++ p.0) (holds p.1.text))
step out all rest p n m old g on count = record {
  written = on.written;
  counted = ap (λ k. count_from k out rest (with_file g (out ++ p.0) (holds p.1.text))) count ∙ on.counted;
  done = on.done ++ p ∷ [];
  split = on.split ∙ sym (append_assoc on.done (p ∷ []) rest);
  so_far = (λ i. with_file (on.so_far i) (out ++ p.0) (holds p.1.text)) ∙ sym (written_last out on.done p old);
  later = λ q h. (or_parts (bytes_eq (out ++ p.0) q) (is_page_path out rest q) (on.later q h)).1;
  others = others_kept out all rest p n old g (holds p.1.text) on;
}

-- before the first page
pub started : (o : Option Files) (out : Text) (all left : Pages) → left ≡ all → IfSome o (λ f. Progress out all left 0 f o)
started None out all left is = tt
started (Some f) out all left is = record {
  written = ap (λ l. all_written out l f) is;
  counted = ap (λ l. count_from 0 out l f) is;
  done = [];
  split = sym is;
  so_far = refl;
  later = λ q h. ap (λ l. is_page_path out l q) is ∙ h;
  others = λ q h. refl;
}

turned : {X : Type 0} (b h : Bool) (x y : X) → b ≡ not h → cond b x y ≡ cond h y x
turned true true x y e = absurd cc
turned true false x y e = refl
turned false true x y e = refl
turned false false x y e = absurd cc

-- a page was written, or its file had its text
pub moved_on : (o w v : Option Files) (out : Text) (all left rest : Pages) (p : Text × Shown) (name text : Text) (n m : ℕ) (b : Bool) → left ≡ p ∷ rest → name ≡ p.0 → text ≡ p.1.text
    → IfSome o (λ f. Progress out all left n f w) → IfSome w (λ f. v ≡ Some (with_file f (out ++ name) (holds text))) → IfSome w (λ f. b ≡ not (is_held (f (out ++ name)) text)) → m ≡ cond b (saturated_sum n 1) n
    → IfSome o (λ f. Progress out all rest m f v)
moved_on None w v out all left rest p name text n m b is named text_is on put needed count = tt
moved_on (Some f) None v out all left rest p name text n m b is named text_is on put needed count = absurd on
moved_on (Some f) (Some g) v out all left rest p name text n m b is named text_is on put needed count =
    let here : b ≡ not (is_held (g (out ++ p.0)) p.1.text) = needed ∙ (λ i. not (is_held (g (out ++ named i)) (text_is i))) in
    let on_it : IsOn out all (p ∷ rest) n f g = subst (λ l. IsOn out all l n f g) is on in
    let there : v ≡ Some (with_file g (out ++ p.0) (holds p.1.text)) = put ∙ (λ i. Some (with_file g (out ++ named i) (holds (text_is i)))) in
    subst (λ x. Progress out all rest m f x) (sym there) (step out all rest p n m f g on_it (count ∙ turned b (is_held (g (out ++ p.0)) p.1.text) (saturated_sum n 1) n here))

-- the writing ended at a page
pub ended_at : (o w v : Option Files) (out : Text) (all left rest : Pages) (p : Text × Shown) (n : ℕ) → left ≡ p ∷ rest → IfSome o (λ f. Progress out all left n f w) → IfSome w (λ f. v ≡ Some f)
    → IfSome o (λ f. KeepsOtherFiles out all f v)
ended_at None w v out all left rest p n is on kept = tt
ended_at (Some f) None v out all left rest p n is on kept = absurd on
ended_at (Some f) (Some g) v out all left rest p n is on kept =
    let on_it : IsOn out all (p ∷ rest) n f g = subst (λ l. IsOn out all l n f g) is on in
    subst (λ x. KeepsOtherFiles out all f x) (sym kept) on_it.others

-- the page that it ended at, unless memory ran out
pub stopped_at : (o w v : Option Files) (out : Text) (all left rest : Pages) (p : Text × Shown) (name text : Text) (n : ℕ) (e : Error) → left ≡ p ∷ rest → name ≡ p.0 → text ≡ p.1.text → IfSome o (λ f. Progress out all left n f w)
    → IfSome w (λ f. v ≡ Some f) → IfSome w (λ f. NeededUnlessMemory (f (out ++ name)) text e) → TellsWhyUnlessMemory (out ++ name) e → IfSome o (λ f. TellsUnwritten out all f v e)
stopped_at None w v out all left rest p name text n e is named same on kept needed message = tt
stopped_at (Some f) None v out all left rest p name text n e is named same on kept needed message = absurd on
stopped_at (Some f) (Some g) v out all left rest p name text n e is named same on kept needed message = at (is_memory e.kind) needed message
  where
    on_it : IsOn out all (p ∷ rest) n f g
    on_it = subst (λ l. IsOn out all l n f g) is on

    at : (b : Bool) → MatchBool b ⊤ (is_held (g (out ++ name)) text ≡ false) → MatchBool b ⊤ ((why : DiskFault) × (option_map string_bytes e.message ≡ Some (unwritten_message (out ++ name) why))) → MatchBool b ⊤ (IsUnwritten out all f v e)
    at true h k = tt
    at false h k = record {
      front = on_it.done;
      page = p;
      back = rest;
      all = on_it.split;
      needed = sym (λ i. is_held (on_it.so_far i (out ++ named i)) (same i)) ∙ h;
      left = kept ∙ ap Some on_it.so_far;
      why = k.0;
      message = k.1 ∙ (λ i. Some (unwritten_message (out ++ named i) k.0));
    }

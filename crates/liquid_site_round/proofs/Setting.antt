-- Files that are set one after another.
use Rattle.std.specs.Prelude.{◌≡◌, ◌⊎◌, List, [], ◌∷◌, ◌++◌, Option, Some, None, IfSome, OnErr, OnOk, Result, Ok, Err, map, cond, Bool, true, false, String, string_bytes}
use Rattle.std.specs.Borrow.{Bor}
use Rattle.std.specs.declared.alloc.Global.{Global}
use Rattle.std.proofs.Common.{ℕ, ◌+◌, ◌<◌, add-one, append_assoc, append-nil, bytes_eq, drop, drop-cons, get_or, inl, inr, is_some, length, option_map, suc}
use Rattle.std.specs.Map.{lookup}
use Rattle.std.specs.Option.{option_copied}
use Rattle.std.proofs.lemmas.Slice.Eq.{bytes_eq-Decides}
use mathlib.Core.Path.{refl, sym, ap, subst, fun_ext, ◌∙◌}
use Rattle.liquid_model.specs.Texts.{Text}
use Rattle.liquid_files.specs.Files.{File, Files, gone, holds, unreadable, with_file, is_held, IsFound, IsSet}
use Rattle.liquid_files.specs.declared.disk.DiskFault.{DiskFault}
use Rattle.liquid_files.specs.declared.disk.DiskFault.TheVariants as fault
use Rattle.liquid_site_build.specs.Written.{SiteFile}
use Rattle.liquid_site_round.specs.Settings.{FileSetting, all_set, AreSet, IsFrontSet}
use Rattle.liquid_site_round.specs.SiteWriting.{BuiltFiles, built_file_view, built_names, file_built, list_ahead, list_setting, placing, removal, removals}
use Rattle.liquid_site_round.specs.declared.place.BuiltFile.{BuiltFile}
use Rattle.liquid_site_round.proofs.Names.{words}
use Rattle.liquid_model.specs.Maps.{listed}
use Rattle.liquid_language.specs.Entries.{seen}
use Rattle.liquid_language.proofs.Inserted.{looked_up, named}
use Rattle.liquid_site_round.specs.WrittenNames.{list_text}
use Rattle.liquid_site_round.specs.inside.Settled.{is_gone, list_file, settled}
use Rattle.liquid_site_round.specs.declared.writing.SiteStop.{SiteStop}

-- ---- one after another

pub set_both : (a b : List FileSetting) (f : Files) → all_set (a ++ b) f ≡ all_set b (all_set a f)
set_both [] b f = refl
set_both (s ∷ a) b f = set_both a b (with_file f s.0 (s.1 f))

-- what was set in front, and then what is set of the rest
more : {E : Type 0} (a b : List FileSetting) (f g : Files) (v : Option Files) (r : Result (Unit {0}) E) → g ≡ all_set a f → AreSet b g r v → AreSet (a ++ b) f r v
more a b f g v (Ok u) is set = set ∙ (λ i. Some (all_set b (is i))) ∙ ap Some (sym (set_both a b f))
more a b f g v (Err e) is set = (a ++ set.0, set.1, ap (λ l. a ++ l) set.2 ∙ sym (append_assoc a set.0 set.1), set.3 ∙ (λ i. Some (all_set set.0 (is i))) ∙ ap Some (sym (set_both a set.0 f)))

fewer : {E : Type 0} (a b : List FileSetting) (f : Files) (v : Option Files) (e : E) (r : Result (Unit {0}) E) → AreSet a f (Err e) v → (r ≡ Err e) → AreSet (a ++ b) f r v
fewer a b f v e r set is = subst (λ x. AreSet (a ++ b) f x v) (sym is) (set.0, set.1 ++ b, ap (λ l. l ++ b) set.2 ∙ append_assoc set.0 set.1 b, set.3)

-- nothing was set before an error
pub none_set : {E : Type 0} (o : Option Files) (a : Files → List FileSetting) (r : Result (Unit {0}) E) (e : E) → r ≡ Err e → IfSome o (λ f. AreSet (a f) f r o)
none_set None a r e is = tt
none_set (Some f) a r e is = subst (λ x. AreSet (a f) f x (Some f)) (sym is) ([], a f, refl, refl)

pub after_first : {E F : Type 0} (o w v : Option Files) (a b : Files → List FileSetting) (r : Result (Unit {0}) F) (u : Unit {0}) (s : Result (Unit {0}) E) → r ≡ Ok u → ((f g : Files) → o ≡ Some f → w ≡ Some g → b f ≡ b g) → IfSome o (λ f. AreSet (a f) f r w)
    → IfSome w (λ g. AreSet (b g) g s v) → IfSome o (λ f. AreSet (a f ++ b f) f s v)
after_first None w v a b r u s ok same set next = tt
after_first (Some f) None v a b (Ok t) u s ok same set next = absurd cc
after_first (Some f) None v a b (Err e) u s ok same set next = absurd cc
after_first (Some f) (Some g) v a b (Err e) u s ok same set next = absurd cc
after_first (Some f) (Some g) v a b (Ok t) u s ok same set next =
    more (a f) (b f) f g v s (let h : Some g ≡ Some (all_set (a f) f) = set in cc) (subst (λ l. AreSet l g s v) (sym (same f g refl refl)) next)

pub ended_first : {E F : Type 0} (o w : Option Files) (a b : Files → List FileSetting) (r : Result (Unit {0}) F) (e : F) (s : Result (Unit {0}) E) (x : E) → r ≡ Err e → s ≡ Err x → IfSome o (λ f. AreSet (a f) f r w) → IfSome o (λ f. AreSet (a f ++ b f) f s w)
ended_first None w a b r e s x err is set = tt
ended_first (Some f) w a b (Ok t) e s x err is set = absurd cc
ended_first (Some f) w a b (Err y) e s x err is set =
    subst (λ z. AreSet (a f ++ b f) f z w) (sym is) (set.0, set.1 ++ b f, ap (λ l. l ++ b f) set.2 ∙ append_assoc set.0 set.1 (b f), set.3)

-- ---- one file

-- a setting alone
pub one_set : {E : Type 0} (o v : Option Files) (path : Text) (held : Files → File) (r : Result (Unit {0}) E) → IfSome o (λ f. IsSet path (held f) f r v) → IfSome o (λ f. AreSet ((path, held) ∷ []) f r v)
one_set None v path held r set = tt
one_set (Some f) v path held (Ok u) set = set
one_set (Some f) v path held (Err e) set = ([], (path, held) ∷ [], refl, set)

pub kept_file : {E : Type 0} (o : Option Files) (path : Text) (held : Files → File) (r : Result (Unit {0}) E) (e : E) → r ≡ Err e → IfSome o (λ f. IsSet path (held f) f r o)
kept_file None path held r e is = tt
kept_file (Some f) path held r e is = subst (λ x. IsSet path (held f) f x (Some f)) (sym is) refl

settled_so : (p : String Global) (path : Text) (file : File) (f : Files) (v : Option Files) (d : Result (Unit {0}) DiskFault) → IsSet path file f d v → IsSet path file f (settled p d) v
settled_so p path file f v (Ok u) set = set
settled_so p path file f v (Err fault.Memory) set = set
settled_so p path file f v (Err (fault.Refused k)) set = set
settled_so p path file f v (Err (fault.Protected w)) set = set

pub settled_file : (o v : Option Files) (p : String Global) (path given : Text) (held : Files → File) (d : Result (Unit {0}) DiskFault) (r : Result (Unit {0}) SiteStop) → given ≡ path → r ≡ settled p d → IfSome o (λ f. IsSet given (held f) f d v)
    → IfSome o (λ f. IsSet path (held f) f r v)
settled_file None v p path given held d r same is set = tt
settled_file (Some f) v p path given held d r same is set =
    subst (λ x. IsSet path (held f) f x v) (sym is) (settled_so p path (held f) f v d (subst (λ q. IsSet q (held f) f d v) same set))

-- a copy
pub copied_file : (o v : Option Files) (p : String Global) (path given from source : Text) (d : Result (Unit {0}) DiskFault) (r : Result (Unit {0}) SiteStop) → given ≡ path → source ≡ from → r ≡ settled p d → IfSome o (λ f. IsSet given (f source) f d v)
    → IfSome o (λ f. IsSet path (f from) f r v)
copied_file o v p path given from source d r same is done set = settled_file o v p path given (λ f. f from) d r same done (subst (λ q. IfSome o (λ f. IsSet given (f q) f d v)) is set)

-- one of the files that are built
pub one_placed : {E : Type 0} (o v : Option Files) (source out name given : Text) (made : SiteFile) (r : Result (Unit {0}) E) → given ≡ name → IfSome o (λ f. IsSet (out ++ given) (file_built source given made f) f r v)
    → IfSome o (λ f. AreSet (placing source out (name, made) ∷ []) f r v)
one_placed o v source out name given made r is set = one_set o v (out ++ name) (file_built source name made) r (subst (λ n. IfSome o (λ f. IsSet (out ++ n) (file_built source n made f) f r v)) is set)

-- a file that is as it would be set
pub file_there : (files : Files) (path : Text) (file : File) → files path ≡ file → with_file files path file ≡ files
unfolding with_file
file_there files path file h = fun_ext (λ q. at q (bytes_eq path q) refl)
  where
    at : (q : Text) (b : Bool) → bytes_eq path q ≡ b → cond b file (files q) ≡ files q
    at q true e = sym h ∙ ap files ((bytes_eq-Decides path q).0 e)
    at q false e = refl

pub set_already : {E : Type 0} (o : Option Files) (path : Text) (file : File) (r : Result (Unit {0}) E) (u : Unit {0}) → r ≡ Ok u → IfSome o (λ f. f path ≡ file) → IfSome o (λ f. IsSet path file f r o)
set_already None path file r u is there = tt
set_already (Some f) path file r u is there = subst (λ x. IsSet path file f x (Some f)) (sym is) (ap Some (sym (file_there f path file there)))

held_so : (file : File) (text : Text) → is_held file text ≡ true → file ≡ holds text
held_so (holds held) text k = ap holds ((bytes_eq-Decides held text).0 k)
held_so gone text k = absurd cc
held_so unreadable text k = absurd cc

pub held_there : (o : Option Files) (path text : Text) (b : Bool) → IfSome o (λ f. b ≡ is_held (f path) text) → b ≡ true → IfSome o (λ f. f path ≡ holds text)
held_there None path text b h k = tt
held_there (Some f) path text b h k = held_so (f path) text (sym h ∙ k)

gone_so : (file : File) → is_gone file ≡ true → file ≡ gone
gone_so gone k = refl
gone_so (holds text) k = absurd cc
gone_so unreadable k = absurd cc

pub gone_there : (o : Option Files) (path : Text) (b : Bool) → IfSome o (λ f. b ≡ is_gone (f path)) → b ≡ true → IfSome o (λ f. f path ≡ gone)
gone_there None path b h k = tt
gone_there (Some f) path b h k = gone_so (f path) (sym h ∙ k)

-- ---- files so far

-- some of the settings were made, and these are left
abbrev pub Progress : List FileSetting → List FileSetting → Files → Option Files → Type 0
Progress all left old None = ⊥
Progress all left old (Some new) = (done : List FileSetting) × (all ≡ done ++ left) × (new ≡ all_set done old)

pub started : (o : Option Files) (all left : List FileSetting) → left ≡ all → IfSome o (λ f. Progress all left f o)
started None all left is = tt
started (Some f) all left is = ([], sym is, refl)

pub went_on : {E : Type 0} (o w v : Option Files) (all left rest one : List FileSetting) (r : Result (Unit {0}) E) (u : Unit {0}) → left ≡ one ++ rest → r ≡ Ok u → IfSome o (λ f. Progress all left f w) → IfSome w (λ g. AreSet one g r v) → IfSome o (λ f. Progress all rest f v)
went_on None w v all left rest one r u split ok on set = tt
went_on (Some f) None v all left rest one r u split ok on set = absurd on
went_on (Some f) (Some g) v all left rest one (Err e) u split ok on set = absurd cc
went_on (Some f) (Some g) v all left rest one (Ok t) u split ok on set =
    subst (λ x. Progress all rest f x) (sym set) (
      on.0 ++ one,
      on.1 ∙ ap (λ l. on.0 ++ l) split ∙ sym (append_assoc on.0 one rest),
      ap (all_set one) on.2 ∙ sym (set_both on.0 one f),
    )

pub went_over : (o w : Option Files) (all left rest : List FileSetting) → left ≡ rest → IfSome o (λ f. Progress all left f w) → IfSome o (λ f. Progress all rest f w)
went_over o w all left rest is on = subst (λ l. IfSome o (λ f. Progress all l f w)) is on

pub ended : {E F : Type 0} (o w v : Option Files) (all left rest one : List FileSetting) (r : Result (Unit {0}) F) (e : F) (s : Result (Unit {0}) E) (x : E) → left ≡ one ++ rest → r ≡ Err e → s ≡ Err x → IfSome o (λ f. Progress all left f w) → IfSome w (λ g. AreSet one g r v)
    → IfSome o (λ f. AreSet all f s v)
ended None w v all left rest one r e s x split err is on set = tt
ended (Some f) None v all left rest one r e s x split err is on set = absurd on
ended (Some f) (Some g) v all left rest one (Ok t) e s x split err is on set = absurd cc
ended (Some f) (Some g) v all left rest one (Err y) e s x split err is on set =
    subst (λ z. AreSet all f z v) (sym is) (
      on.0 ++ set.0,
      set.1 ++ rest,
      on.1 ∙ ap (λ l. on.0 ++ l) (split ∙ ap (λ l. l ++ rest) set.2 ∙ append_assoc set.0 set.1 rest) ∙ sym (append_assoc on.0 set.0 (set.1 ++ rest)),
      set.3 ∙ (λ i. Some (all_set set.0 (on.2 i))) ∙ ap Some (sym (set_both on.0 set.0 f)),
    )

pub all_done : {E : Type 0} (o w : Option Files) (all left : List FileSetting) (r : Result (Unit {0}) E) (u : Unit {0}) → left ≡ [] → r ≡ Ok u → IfSome o (λ f. Progress all left f w) → IfSome o (λ f. AreSet all f r w)
all_done None w all left r u none ok on = tt
all_done (Some f) None all left r u none ok on = absurd on
all_done (Some f) (Some g) all left r u none ok on =
    let done : all ≡ on.0 = on.1 ∙ ap (λ l. on.0 ++ l) none ∙ append-nil on.0 in
    subst (λ x. AreSet all f x (Some g)) (sym ok) (ap Some (on.2 ∙ ap (λ l. all_set l f) (sym done)))

-- ---- the list ahead

-- whether the list is that of what is built
is_built : (f : Files) (list text : Text) (held : Option (String Global)) (fs : BuiltFiles) (b : Bool) → f list ≡ list_file held → b ≡ is_held (list_file held) text → text ≡ list_text (built_names fs) → is_held (f list) (list_text (built_names fs)) ≡ b
is_built f list text held fs b at is same = (λ i. is_held (at i) (list_text (built_names fs))) ∙ sym (ap (is_held (list_file held)) same) ∙ sym is

pub set_none : {E : Type 0} (o : Option Files) (ss : List FileSetting) (r : Result (Unit {0}) E) (u : Unit {0}) → ss ≡ [] → r ≡ Ok u → IfSome o (λ f. AreSet ss f r o)
set_none None ss r u none ok = tt
set_none {E = E} (Some f) ss r u none ok = subst (λ x. AreSet ss f x (Some f)) (sym ok) (subst (λ l. AreSet {E = E} l f (Ok u) (Some f)) (sym none) refl)

pub set_one : {E : Type 0} (o v : Option Files) (ss : List FileSetting) (path : Text) (held : Files → File) (r : Result (Unit {0}) E) → ss ≡ (path, held) ∷ [] → IfSome o (λ f. IsSet path (held f) f r v) → IfSome o (λ f. AreSet ss f r v)
set_one o v ss path held r one set = subst (λ l. IfSome o (λ f. AreSet l f r v)) (sym one) (one_set o v path held r set)

pub ahead_none : {E : Type 0} (o : Option Files) (list text : Text) (held : Option (String Global)) (fs : BuiltFiles) (names : List Text) (b : Bool) (r : Result (Unit {0}) E) (u : Unit {0}) → IfSome o (λ f. f list ≡ list_file held) → b ≡ is_held (list_file held) text
    → text ≡ list_text (built_names fs) → b ≡ true → r ≡ Ok u → IfSome o (λ f. AreSet (list_ahead list fs names f) f r o)
ahead_none None list text held fs names b r u at is same holds_it ok = tt
ahead_none (Some f) list text held fs names b r u at is same holds_it ok =
    set_none (Some f) (list_ahead list fs names f) r u (ap (λ x. cond x [] (list_setting list (names ++ built_names fs))) (is_built f list text held fs b at is same ∙ holds_it)) ok

pub ahead_set : {E : Type 0} (o v : Option Files) (list given text ahead : Text) (held : Option (String Global)) (fs : BuiltFiles) (names : List Text) (b : Bool) (r : Result (Unit {0}) E) → IfSome o (λ f. f list ≡ list_file held) → b ≡ is_held (list_file held) text
    → text ≡ list_text (built_names fs) → b ≡ false → given ≡ list → ahead ≡ list_text (names ++ built_names fs) → IfSome o (λ f. IsSet given (holds ahead) f r v) → IfSome o (λ f. AreSet (list_ahead list fs names f) f r v)
ahead_set None v list given text ahead held fs names b r at is same other there whole set = tt
ahead_set (Some f) v list given text ahead held fs names b r at is same other there whole set =
    let one : list_ahead list fs names f ≡ list_setting list (names ++ built_names fs) = ap (λ x. cond x [] (list_setting list (names ++ built_names fs))) (is_built f list text held fs b at is same ∙ other) in
    let moved : IsSet list (holds (list_text (names ++ built_names fs))) f r v = subst (λ t. IsSet list (holds t) f r v) whole (subst (λ p. IsSet p (holds ahead) f r v) there set) in
    subst (λ ss. AreSet ss f r v) (sym one) (one_set (Some f) v list (λ _. holds (list_text (names ++ built_names fs))) r moved)

-- ---- what is taken away

next_one : {X : Type 0} (xs : List X) (i : ℕ) (d : X) → i < length xs → drop i xs ≡ get_or xs i d ∷ drop (i + 1) xs
next_one xs i d lt = rw add-one (drop-cons xs i d lt)

-- the removals that are left are that of the next name, and those after it
pub next_removal : (out : Text) (fs : BuiltFiles) (ns : List (Bor Text)) (i : ℕ) (d : Bor Text) → i < length ns
    → removals out fs (words (drop i ns)) ≡ removal out (get_or ns i d).now (listed fs (get_or ns i d).now) ++ removals out fs (words (drop (i + 1) ns))
next_removal out fs ns i d lt = ap (λ l. removals out fs (words l)) (next_one ns i d lt)

is_built_file : (r : Option (Bor BuiltFile)) (out name : Text) → is_some r ≡ true → removal out name (option_map built_file_view (option_copied r)) ≡ []
is_built_file None out name h = absurd cc
is_built_file (Some x) out name h = refl

is_no_built_file : (r : Option (Bor BuiltFile)) (out name : Text) → is_some r ≡ false → removal out name (option_map built_file_view (option_copied r)) ≡ (out ++ name, λ _. gone) ∷ []
is_no_built_file None out name h = refl
is_no_built_file (Some x) out name h = absurd cc

pub removes_none : (r : Option (Bor BuiltFile)) (out name : Text) (es : List (String Global × BuiltFile)) → option_copied r ≡ lookup (named name) es → is_some r ≡ true → removal out name (listed (seen built_file_view es) name) ≡ []
removes_none r out name es found h = ap (removal out name) (sym (looked_up built_file_view name es)) ∙ sym (ap (λ o. removal out name (option_map built_file_view o)) found) ∙ is_built_file r out name h

pub removes_one : (r : Option (Bor BuiltFile)) (out name : Text) (es : List (String Global × BuiltFile)) → option_copied r ≡ lookup (named name) es → is_some r ≡ false → removal out name (listed (seen built_file_view es) name) ≡ (out ++ name, λ _. gone) ∷ []
removes_one r out name es found h = ap (removal out name) (sym (looked_up built_file_view name es)) ∙ sym (ap (λ o. removal out name (option_map built_file_view o)) found) ∙ is_no_built_file r out name h

-- What is taken of a file, by what the site and the data answer.
use Rattle.std.specs.Prelude.{◌≡◌, ℕ, ◌+◌, ◌<◌, Bool, true, false, MatchBool, ⊤, List, [], ◌∷◌, ◌++◌, Option, Some, None, option_map, option_to_list, Result, Ok, Err, IfOk, OnOk, IfSome, String, string_bytes}
use Rattle.std.proofs.Common.{inr, drop, suc, length, get_or, add-one, drop-cons, append_assoc, append-nil}
use Rattle.std.specs.BTreeMap.{BTreeMap}
use Rattle.std.specs.declared.alloc.Global.{Global}
use mathlib.Core.Path.{refl, sym, ap, subst, ◌∙◌}
use Rattle.liquid_model.specs.Answer.{Faulted, IsValueOrMemory}
use Rattle.liquid_model.specs.Texts.{Text}
use Rattle.liquid_model.specs.ErrorKinds.{is_memory, is_refusal}
use Rattle.liquid_model.specs.declared.error.Error.{Error}
use Rattle.liquid_model.specs.declared.error.ErrorKind.{ErrorKind}
use Rattle.liquid_model.specs.declared.error.ErrorKind.TheVariants.{Memory}
use Rattle.liquid_model.specs.declared.value.Value.{Value}
use Rattle.liquid_core.specs.Held.{held}
use Rattle.liquid_engine.proofs.Joined.{memory_of}
use Rattle.liquid_parser.specs.Parsing.{IsOfSource}
use Rattle.liquid_language.specs.declared.registry.Language.{Language}
use Rattle.liquid_json.specs.Json.{data_of}
use Rattle.liquid_site.specs.Applied.{Applies, IsChangeRefused, HasBadSource}
use Rattle.liquid_site.specs.Contents.{Contents}
use Rattle.liquid_site.specs.SiteViews.{contents_of, language_of}
use Rattle.liquid_site.specs.Steps.{stepped}
use Rattle.liquid_site.specs.declared.change.Change.{Change}
use Rattle.liquid_site.specs.declared.change.Change.TheVariants.{SetData}
use Rattle.liquid_site.specs.declared.site.Site.{Site}
use Rattle.liquid_files.specs.Files.{Files}
use Rattle.liquid_site.specs.inside.Found.{file_state_view}
use Rattle.liquid_site.specs.Paths.{changed_file_path}
use Rattle.liquid_site.specs.Refusals.{RefusesFile, IsRefusal, AreRefusals}
use Rattle.liquid_site.specs.Taken.{TakesFile, TakesData, AreTaken, contents_with_data}
use Rattle.liquid_site.specs.inside.Changes.{TakesChange}
use Rattle.liquid_site.specs.declared.folder.Changed.{Changed}
use Rattle.liquid_site.specs.declared.folder.Folder.{Folder}
use Rattle.liquid_site.specs.declared.take.FileState.{FileState}
use Rattle.liquid_site.specs.declared.take.FileState.TheVariants as found
use Rattle.liquid_site.specs.declared.take.RefusedFile.{RefusedFile}
use Rattle.liquid_site.specs.declared.take.RefusalReason.{RefusalReason}

pub refused_change : (r : Result (Option RefusalReason) Error) (change : Change) (kind : ErrorKind) (old new : Site) → IfOk r (λ why. is_memory kind ≡ false) → IsChangeRefused change kind old new → OnOk r (TakesChange change old new)
refused_change (Ok o) change kind old new h refused = inr ((subst (λ b. MatchBool b ⊤ (HasBadSource (language_of old) change × IsOfSource kind)) h refused.why).0, refused.contents)
refused_change (Err e) change kind old new h refused = tt

no_source : (kind : ErrorKind) (P : Type 0) (b : Bool) → is_memory kind ≡ b → MatchBool b ⊤ (⊥ × P) → kind ≡ Memory
no_source kind P true h why = memory_of kind h
no_source kind P false h why = absurd why.0

pub data_set : (r : Result (Unit {0}) Error) (new : BTreeMap (String Global) Value) (before after : Site) → Applies (SetData new) r before after → IsValueOrMemory (λ u. contents_of after) r (record (contents_of before) { «data» = held new })
data_set (Ok u) new before after done = done.contents ∙ ap (λ s. stepped s (contents_of before)) done.is_step
data_set (Err e) new before after done = no_source e.kind _ (is_memory e.kind) refl done.why

pub refused_data : (r : Result (Option RefusalReason) Error) (kind : ErrorKind) (given : Text) (text : String Global) (f : FileState) (c : Contents) → IfOk r (λ why. is_memory kind ≡ false) → Faulted kind (data_of given) → given ≡ string_bytes text → f ≡ found.Text text
    → OnOk r (TakesData (file_state_view f) c c)
refused_data (Err e) kind given text f c h faulted is there = tt
refused_data (Ok o) kind given text f c h faulted is there =
    let none : data_of given ≡ Err kind = (subst (λ b. MatchBool b ⊤ ((data_of given ≡ Err kind) × (is_refusal kind ≡ false))) h faulted).0 in
    subst (λ x. TakesData (file_state_view x) c c) (sym there) (sym (ap (λ s. contents_with_data (data_of s) c) (sym is) ∙ ap (λ r. contents_with_data r c) none))

next_item : {X : Type 0} (xs : List X) (i : ℕ) (x : X) → x ≡ get_or xs i x → i < length xs → drop i xs ≡ x ∷ drop (i + 1) xs
next_item xs i x is lt = rw add-one (drop-cons xs i x lt ∙ ap (λ y. y ∷ drop (suc i) xs) (sym is))

-- before the first file
pub taken_first : (o : Option Files) (l : Language) (folder : Folder) (changes : List Changed) (first : Contents) → IfSome o (λ f. (d : Contents) → AreTaken l folder f changes first d → AreTaken l folder f changes first d)
taken_first None l folder changes first = tt
taken_first (Some f) l folder changes first = λ d h. h

-- one more file is taken
pub taken_on : (o : Option Files) (l own : Language) (folder : Folder) (changes : List Changed) (i : ℕ) (changed : Changed) (first now new : Contents) → own ≡ l → changed ≡ get_or changes i changed → i < length changes
    → IfSome o (λ f. (d : Contents) → AreTaken l folder f (drop i changes) now d → AreTaken l folder f changes first d) → IfSome o (λ f. TakesFile own changed (f (changed_file_path folder changed)) now new)
    → IfSome o (λ f. (d : Contents) → AreTaken l folder f (drop (i + 1) changes) new d → AreTaken l folder f changes first d)
taken_on None l own folder changes i changed first now new same is lt so step = tt
taken_on (Some f) l own folder changes i changed first now new same is lt so step =
    let here : TakesFile l changed (f (changed_file_path folder changed)) now new = subst (λ k. TakesFile k changed (f (changed_file_path folder changed)) now new) same step in
    λ d more. so d (subst (λ cs. AreTaken l folder f cs now d) (sym (next_item changes i changed is lt)) (new, here, more))

-- all files are taken
pub all_taken : (o : Option Files) (l : Language) (folder : Folder) (changes : List Changed) (i : ℕ) (first now : Contents) → drop i changes ≡ []
    → IfSome o (λ f. (d : Contents) → AreTaken l folder f (drop i changes) now d → AreTaken l folder f changes first d) → IfSome o (λ f. AreTaken l folder f changes first now)
all_taken None l folder changes i first now none so = tt
all_taken (Some f) l folder changes i first now none so = so now (subst (λ cs. AreTaken l folder f cs now now) (sym none) refl)

-- ---- what is reported

is_refusal_of : (l : Language) (folder : Folder) (files : Files) (changed : Changed) (r : Option RefusedFile) → RefusesFile l changed (files (changed_file_path folder changed)) (option_map (λ refusal. refusal.why) r) → IfSome r (λ refusal. string_bytes refusal.path ≡ changed_file_path folder changed)
    → IsRefusal l folder files changed r
is_refusal_of l folder files changed None why path = why
is_refusal_of l folder files changed (Some refusal) why path = (path, why)

-- nothing is reported before the first file
pub refusals_first : (o : Option Files) (l : Language) (folder : Folder) (changes : List Changed) (refused : List RefusedFile) → refused ≡ [] → IfSome o (λ f. (rs : List RefusedFile) → AreRefusals l folder f changes rs → AreRefusals l folder f changes (refused ++ rs))
refusals_first None l folder changes refused none = tt
refusals_first (Some f) l folder changes refused none = λ rs h. subst (λ ts. AreRefusals l folder f changes (ts ++ rs)) (sym none) h

-- one more file is reported, or is not refused
pub refusals_on : (o : Option Files) (l own : Language) (folder : Folder) (changes : List Changed) (i : ℕ) (changed : Changed) (r : Option RefusedFile) (before after : List RefusedFile) → own ≡ l → changed ≡ get_or changes i changed → i < length changes
    → IfSome o (λ f. (rs : List RefusedFile) → AreRefusals l folder f (drop i changes) rs → AreRefusals l folder f changes (before ++ rs)) → IfSome o (λ f. RefusesFile own changed (f (changed_file_path folder changed)) (option_map (λ refusal. refusal.why) r))
    → IfSome r (λ refusal. string_bytes refusal.path ≡ changed_file_path folder changed) → after ≡ before ++ option_to_list r
    → IfSome o (λ f. (rs : List RefusedFile) → AreRefusals l folder f (drop (i + 1) changes) rs → AreRefusals l folder f changes (after ++ rs))
refusals_on None l own folder changes i changed r before after same is lt so why path joined = tt
refusals_on (Some f) l own folder changes i changed r before after same is lt so why path joined =
    let here : IsRefusal l folder f changed r = subst (λ k. IsRefusal k folder f changed r) same (is_refusal_of own folder f changed r why path) in
    λ rs more. subst (λ refused. AreRefusals l folder f changes refused) (sym (ap (λ refused. refused ++ rs) joined ∙ append_assoc before (option_to_list r) rs))
    (so (option_to_list r ++ rs) (subst (λ cs. AreRefusals l folder f cs (option_to_list r ++ rs)) (sym (next_item changes i changed is lt)) (r, rs, here, more, refl)))

-- all refused files are reported
pub all_refusals : (o : Option Files) (l : Language) (folder : Folder) (changes : List Changed) (i : ℕ) (refused : List RefusedFile) → drop i changes ≡ [] → IfSome o (λ f. (rs : List RefusedFile) → AreRefusals l folder f (drop i changes) rs → AreRefusals l folder f changes (refused ++ rs))
    → IfSome o (λ f. AreRefusals l folder f changes refused)
all_refusals None l folder changes i refused none so = tt
all_refusals (Some f) l folder changes i refused none so = subst (λ rs. AreRefusals l folder f changes rs) (append-nil refused) (so [] (subst (λ cs. AreRefusals l folder f cs []) (sym none) refl))

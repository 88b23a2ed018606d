-- Files that are read one after another.
use Rattle.std.proofs.Common.{◌≡◌, List, [], ◌∷◌, ◌++◌, map, Option, Some, None, refl, sym, ap, ◌∙◌, subst, append_assoc, append-nil, string_bytes, ℕ, ◌+◌, ◌<◌, ◌≤◌, length, drop, get_or}
use Rattle.liquid_model.specs.Texts.{Text}
use Rattle.liquid_language.specs.declared.registry.Language.{Language}
use Rattle.liquid_site_build.specs.SiteFiles.{AddsFile, AddsFiles, SiteForm, SourceRefusal, refused_by}
use Rattle.liquid_language.specs.Entries.{put_entry}
use Rattle.liquid_site_build.specs.SiteFiles.{named_after}
use Rattle.liquid_site_build.specs.Sources.{SiteSources, SiteTexts}
use Rattle.liquid_site_sources.specs.SourceFolders.{collection_folder_view, refused_source_view, site_file_view, source_fault_view}
use Rattle.liquid_site_sources.specs.inside.TextPlaces.{IsNextFile}
use Rattle.std.proofs.lemmas.List.{drop_all, drop_more}
use Rattle.liquid_site_sources.specs.declared.folders.CollectionFolder.{CollectionFolder}
use Rattle.liquid_site_sources.specs.declared.take.RefusedSource.{RefusedSource}
use Rattle.liquid_site_sources.specs.declared.take.SiteFile.{SiteFile}

module _ (form : SiteForm) (l : Language) where
  -- whatever the files that are left are read as after what is read, all are read as from the start
  abbrev pub GoOn : List (Text × Option Text) → SiteSources → List (Text × SourceRefusal) → List (Text × Option Text) → SiteSources → Type 0
  GoOn all start refused left now = (s : SiteSources) (later : List (Text × SourceRefusal)) → AddsFiles form l left now s later → AddsFiles form l all start s (refused ++ later)

  pub go_on : (all : List (Text × Option Text)) (start : SiteSources) (refused : List (Text × SourceRefusal)) (f : Text × Option Text) (left : List (Text × Option Text)) (now next : SiteSources) (why : Option SourceRefusal)
      → GoOn all start refused (f ∷ left) now → AddsFile form l f.0 f.1 now next why → GoOn all start (refused ++ refused_by f.0 why) left next
  go_on all start refused f left now next why before part s later rest =
      subst (λ r. AddsFiles form l all start s r) (sym (append_assoc refused (refused_by f.0 why) later))
      (before s (refused_by f.0 why ++ later) (next, why, later, part, rest, refl))

  pub all_read : (all : List (Text × Option Text)) (start now : SiteSources) (refused : List (Text × SourceRefusal)) → GoOn all start refused [] now → AddsFiles form l all start now refused
  all_read all start now refused before = subst (λ r. AddsFiles form l all start now r) (append-nil refused) (before now [] (refl, refl))

  pub none_read : (all : List (Text × Option Text)) (start now : SiteSources) → now ≡ start → GoOn all start [] all now
  none_read all start now e s later rest = subst (λ x. AddsFiles form l all x s later) e rest

-- one more collection without documents
pub named_turn : (before new : List (Text × SiteTexts)) (folders left : List CollectionFolder) (x : CollectionFolder) (whole : List (Text × SiteTexts)) → folders ≡ x ∷ left → new ≡ put_entry (string_bytes x.name) [] before
    → named_after before (map collection_folder_view folders) ≡ whole → named_after new (map collection_folder_view left) ≡ whole
named_turn before new folders left x whole e n inv =
    ap (λ b. named_after b (map collection_folder_view left)) n ∙ ap (λ ls. named_after before (map collection_folder_view ls)) (sym e) ∙ inv

pub next_taken : (form : SiteForm) (l : Language) (f : Text × Option Text) (old new : SiteSources) (before after : List (Text × SourceRefusal)) (why : Option SourceRefusal) → AddsFile form l f.0 f.1 old new why
    → after ≡ before ++ refused_by f.0 why → IsNextFile form l f old new before after
next_taken form l f old new before after why adds noted = (why, adds, noted)

pub refused_none : (rs : List (Text × SourceRefusal)) → rs ≡ rs ++ []
refused_none rs = sym (append-nil rs)

pub refused_more : (rs new : List RefusedSource) (r : RefusedSource) (path : Text) → new ≡ rs ++ r ∷ [] → string_bytes r.path ≡ path
    → map refused_source_view new ≡ map refused_source_view rs ++ (path, source_fault_view r.why) ∷ []
refused_more rs new r path e p = ap (map refused_source_view) e ∙ push rs ∙ ap (λ q. map refused_source_view rs ++ (q, source_fault_view r.why) ∷ []) p
  where
    push : (rs : List RefusedSource) → map refused_source_view (rs ++ r ∷ []) ≡ map refused_source_view rs ++ refused_source_view r ∷ []
    push [] = refl
    push (x ∷ rs) = ap (λ ls. refused_source_view x ∷ ls) (push rs)

-- one more file
pub file_taken : (form : SiteForm) (l : Language) (all : List (Text × Option Text)) (start now next : SiteSources) (before after : List (Text × SourceRefusal)) (files left : List SiteFile) (f : SiteFile) → files ≡ f ∷ left
    → IsNextFile form l (site_file_view f) now next before after → GoOn form l all start before (map site_file_view files) now → GoOn form l all start after (map site_file_view left) next
file_taken form l all start now next before after files left f e taken goes =
    subst (λ rs. GoOn form l all start rs (map site_file_view left) next) (sym taken.2)
    (go_on form l all start before (site_file_view f) (map site_file_view left) now next taken.0 (subst (λ fs. GoOn form l all start before (map site_file_view fs) now) e goes) taken.1)

pub file_taken_at : (form : SiteForm) (l : Language) (all : List (Text × Option Text)) (start now next : SiteSources) (before after : List (Text × SourceRefusal)) (files : List SiteFile) (i : ℕ) (d : SiteFile) → i < length files
    → IsNextFile form l (site_file_view (get_or files i d)) now next before after → GoOn form l all start before (map site_file_view (drop i files)) now → GoOn form l all start after (map site_file_view (drop (i + 1) files)) next
file_taken_at form l all start now next before after files i d within =
    file_taken form l all start now next before after (drop i files) (drop (i + 1) files) (get_or files i d) (drop_more files i d within)

-- no file is left
pub files_read : (form : SiteForm) (l : Language) (all : List (Text × Option Text)) (start now : SiteSources) (refused : List (Text × SourceRefusal)) (files : List SiteFile) (i : ℕ) → length files ≤ i
    → GoOn form l all start refused (map site_file_view (drop i files)) now → AddsFiles form l all start now refused
files_read form l all start now refused files i h goes =
    all_read form l all start now refused (subst (λ fs. GoOn form l all start refused (map site_file_view fs) now) (drop_all i files h) goes)

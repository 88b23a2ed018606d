-- What a site is read as from its files, by their paths below the site's folder.
--     SiteForm      the names of the folders, and what a data file gives
--     part_at form path      which part of a site a file is
--     AreRead setting form l files s refused      these files are read as s, and those are refused
--     OneReading      there is one such reading at most
use Rattle.std.specs.Prelude.{◌≡◌, ◌-◌, ◌==◌, ◌||◌, ◌&&◌, not, nat_le, nat_lt, Bool, true, false}
use Rattle.std.specs.Prelude.{cond, List, [], ◌∷◌, ◌++◌, length, take, drop, bytes_eq, codes}
use Rattle.std.specs.Prelude.{slice_index}
use Rattle.std.specs.Prelude.{Option, Some, None, Result, Ok, Err}
use Rattle.std.specs.List.{list_any, slice_split}
use Rattle.std.specs.Path.{slash}
use Rattle.liquid_model.specs.Data.{Datum, truth, Pairs, no_pairs, put}
use Rattle.liquid_model.specs.Find.{value_at}
use Rattle.liquid_model.specs.Texts.{Text}
use Rattle.liquid_model.specs.declared.error.ErrorKind.{ErrorKind}
use Rattle.liquid_engine.specs.declared.run_setting.RunSetting.{RunSetting}
use Rattle.liquid_evaluation.specs.Tree.{Nodes}
use Rattle.liquid_yaml.specs.Reading.{Front, front_matter_of}
use Rattle.liquid_language.specs.Entries.{put_entry}
use Rattle.liquid_language.specs.declared.registry.Language.{Language}
use Rattle.liquid_parser.specs.Parsing.{IsOnlyTree, HasNoTree}
use Rattle.liquid_site_build.specs.Sources.{SiteText, SiteTexts, SiteSources, no_sources}
use Rattle.liquid_site_build.specs.Sources.{put_page, put_document, put_layout, put_partial}
use Rattle.liquid_site_build.specs.Sources.{put_static}

-- The folders of layouts, partials and data, each with a slash at its end; the folders of the
-- collections, with the names of these; the configuration's path; which files and folders are left
-- out, and which names count although they are hidden; and the data of a file by its
-- name below the folder of data.
pub record SiteForm : Type 0 where
  pub layouts : Text
  pub partials : Text
  pub «data» : Text
  pub collections : List (Text × Text)
  pub config : Text
  pub excluded : List Text
  pub included : List Text
  pub data_read : Text → Text → Result Datum ErrorKind
  pub config_read : Text → Result Pairs ErrorKind
  -- a name without its suffix
  pub stem : Text → Text

pub data SitePart : Type 0 where
  config_file : SitePart
  data_file : Text → SitePart
  layout_file : Text → SitePart
  partial_file : Text → SitePart
  document_file_of : Text → SitePart
  page_file : SitePart
  left_out : SitePart

abbrev pub is_below : Text → Text → Bool
is_below folder path = nat_le (length folder) (length path)
    && bytes_eq (take (length folder) path) folder

abbrev pub below : Text → Text → Text
below folder path = drop (length folder) path

-- a name that is left out: it begins with `_` or `.`
abbrev pub is_hidden_part : Text → Bool
is_hidden_part name = (slice_index name 0 == 95) || (slice_index name 0 == 46)

-- unless it is named so
abbrev pub is_hidden_by : List Text → Text → Bool
is_hidden_by included name = is_hidden_part name && not (list_any (bytes_eq name) included)

abbrev pub page_unless_hidden : List Text → Text → SitePart
page_unless_hidden included path =
    cond (list_any (is_hidden_by included) (slice_split (λ b. b == slash) path)) left_out page_file

abbrev pub document_part : List Text → List (Text × Text) → Text → SitePart
document_part included [] path = page_unless_hidden included path
document_part included (c ∷ cs) path = cond (is_below c.0 path) (document_file_of c.1)
    (document_part included cs path)

abbrev pub ends_in_slash : Text → Bool
ends_in_slash s = nat_lt 0 (length s) && slice_index s (length s - 1) == slash

abbrev pub is_at_end : Text → Bool
is_at_end [] = true
is_at_end (b ∷ bs) = b == slash

-- the file or folder e, with or without a slash at its end, is the path or stands around it
abbrev pub is_within : Text → Text → Bool
is_within path e = is_below e path && (ends_in_slash e || is_at_end (below e path))

abbrev pub part_at : SiteForm → Text → SitePart
part_at form path = cond (bytes_eq path form.config) config_file
    (cond (list_any (is_within path) form.excluded) left_out
    (cond (is_below form.«data» path) (data_file (below form.«data» path))
    (cond (is_below form.layouts path) (layout_file (form.stem (below form.layouts path)))
    (cond (is_below form.partials path) (partial_file (below form.partials path))
    (document_part form.included form.collections path)))))

-- ---- what a file adds

pub data SourceRefusal : Type 0 where
  no_front : ErrorKind → SourceRefusal
  no_template : SourceRefusal
  no_data : ErrorKind → SourceRefusal
  no_text : SourceRefusal

-- the collections that the folders are named for, without documents
abbrev pub named_after : List (Text × SiteTexts) → List (Text × Text) → List (Text × SiteTexts)
named_after before [] = before
named_after before (c ∷ cs) = named_after (put_entry c.1 [] before) cs

abbrev pub empty_site : RunSetting → SiteForm → SiteSources
empty_site setting form = no_sources setting (named_after [] form.collections)

-- a text of the site, with the members before it and its template
abbrev pub text_with : Pairs → Nodes → SiteText
text_with front t = record { front = front; nodes = t }

-- the text of a template adds its only tree; one that is none is refused, and adds nothing
abbrev pub AddsTemplate : Language → Text → (Nodes → SiteSources) → SiteSources → SiteSources →
    Option SourceRefusal → Type 0
AddsTemplate l source add old new None =
    (t : Nodes) × IsOnlyTree l t source × (new ≡ add t)
AddsTemplate l source add old new (Some why) =
    HasNoTree l source × (new ≡ old) × (why ≡ no_template)

-- a text is left out where its member `published` is false
abbrev pub published_by : Option Datum → Bool
published_by (Some (truth b)) = b
published_by _ = true

abbrev pub is_published : Pairs → Bool
is_published front = published_by (value_at (codes "published") front)

abbrev pub AddsPublished : Bool → Type 0 → SiteSources → SiteSources → Option SourceRefusal →
    Type 0
AddsPublished true Adds old new why = Adds
AddsPublished false Adds old new why = (new ≡ old) × (why ≡ None)

-- a text with front matter, what it adds; without any, what it adds as it stands
abbrev pub AddsFront : Language → Result (Option Front) ErrorKind →
    (Pairs → Nodes → SiteSources) → SiteSources → SiteSources → SiteSources →
    Option SourceRefusal → Type 0
AddsFront l (Ok (Some f)) add plain old new why = AddsPublished (is_published f.members)
    (AddsTemplate l f.body (add f.members) old new why) old new why
AddsFront l (Ok None) add plain old new why = (new ≡ plain) × (why ≡ None)
AddsFront l (Err kind) add plain old new why = (new ≡ old) × (why ≡ Some (no_front kind))

-- a layout needs no front matter
abbrev pub AddsLayout : Language → Text → Text → Result (Option Front) ErrorKind → SiteSources →
    SiteSources → Option SourceRefusal → Type 0
AddsLayout l name source (Ok (Some f)) old new why =
    AddsTemplate l f.body (λ t. put_layout name (text_with f.members t) old) old new why
AddsLayout l name source (Ok None) old new why =
    AddsTemplate l source (λ t. put_layout name (text_with no_pairs t) old) old new why
AddsLayout l name source (Err kind) old new why = (new ≡ old) × (why ≡ Some (no_front kind))

abbrev pub AddsData : {A : Type 0} → Result A ErrorKind → (A → SiteSources) → SiteSources →
    SiteSources → Option SourceRefusal → Type 0
AddsData (Ok d) add old new why = (new ≡ add d) × (why ≡ None)
AddsData (Err kind) add old new why = (new ≡ old) × (why ≡ Some (no_data kind))

abbrev pub AddsSitePart : SiteForm → Language → Text → Text → SitePart → SiteSources → SiteSources →
    Option SourceRefusal → Type 0
AddsSitePart form l path source config_file old new why =
    AddsData (form.config_read source) (λ ps. record old { config = ps }) old new why
AddsSitePart form l path source (data_file name) old new why = AddsData (form.data_read name source)
    (λ d. record old { «data» = put (form.stem name) d old.«data» }) old new why
AddsSitePart form l path source (layout_file name) old new why =
    AddsLayout l name source (front_matter_of source) old new why
AddsSitePart form l path source (partial_file name) old new why =
    AddsTemplate l source (λ t. put_partial name t old) old new why
AddsSitePart form l path source (document_file_of name) old new why =
    AddsFront l (front_matter_of source) (λ front t. put_document name path (text_with front t) old)
    (put_static path old) old new why
AddsSitePart form l path source page_file old new why =
    AddsFront l (front_matter_of source) (λ front t. put_page path (text_with front t) old)
    (put_static path old) old new why
AddsSitePart form l path source left_out old new why = (new ≡ old) × (why ≡ None)

-- a file that is no text is written as it is where a page could stand
abbrev pub AddsBytes : Text → SitePart → SiteSources → SiteSources → Option SourceRefusal → Type 0
AddsBytes path (document_file_of name) old new why = (new ≡ put_static path old) × (why ≡ None)
AddsBytes path page_file old new why = (new ≡ put_static path old) × (why ≡ None)
AddsBytes path left_out old new why = (new ≡ old) × (why ≡ None)
AddsBytes path _ old new why = (new ≡ old) × (why ≡ Some no_text)

-- what a file adds, a text or none
abbrev pub AddsFile : SiteForm → Language → Text → Option Text → SiteSources → SiteSources →
    Option SourceRefusal → Type 0
AddsFile form l path (Some source) old new why =
    AddsSitePart form l path source (part_at form path) old new why
AddsFile form l path None old new why = AddsBytes path (part_at form path) old new why

-- ---- all files, in the order of their paths

-- a refused file, and why
abbrev pub refused_by : Text → Option SourceRefusal → List (Text × SourceRefusal)
refused_by path None = []
refused_by path (Some why) = (path, why) ∷ []

abbrev pub AddsFiles : SiteForm → Language → List (Text × Option Text) → SiteSources → SiteSources →
    List (Text × SourceRefusal) → Type 0
AddsFiles form l [] old new refused = (new ≡ old) × (refused ≡ [])
AddsFiles form l (f ∷ fs) old new refused = (next : SiteSources) × (why : Option SourceRefusal) ×
    (later : List (Text × SourceRefusal)) ×
    AddsFile form l f.0 f.1 old next why ×
    AddsFiles form l fs next new later × (refused ≡ refused_by f.0 why ++ later)

abbrev pub AreRead : RunSetting → SiteForm → Language → List (Text × Option Text) → SiteSources →
    List (Text × SourceRefusal) → Type 0
AreRead setting form l files s refused =
    AddsFiles form l files (empty_site setting form) s refused

-- the files alone say what a site is read as, and which of them are refused
abbrev pub OneReading : Type 0
OneReading = (setting : RunSetting) (form : SiteForm) (l : Language)
    (files : List (Text × Option Text)) (s t : SiteSources) (p q : List (Text × SourceRefusal)) →
    AreRead setting form l files s p → AreRead setting form l files t q → (s ≡ t) × (p ≡ q)

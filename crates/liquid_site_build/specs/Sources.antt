-- What the files of a site are read as. Where this is said of them, each was read without a fault;
-- a file with one is reported, and is none of the site's.
--     SiteSources      all that a site is built from
--     put_page, put_document, put_layout ..      one part of it in the place of what was there
use Rattle.std.specs.Prelude.{List, [], ◌∷◌, unwrap_or}
use Rattle.std.specs.Cmp.Lexicographic.{slice_cmp}
use Rattle.std.specs.Ordering.{match_ordering, nat_cmp}
use Rattle.liquid_model.specs.Data.{Pairs, no_pairs}
use Rattle.liquid_model.specs.Maps.{listed}
use Rattle.liquid_model.specs.Texts.{Text}
use Rattle.liquid_engine.specs.declared.run_setting.RunSetting.{RunSetting}
use Rattle.liquid_evaluation.specs.Tree.{Nodes}
use Rattle.liquid_language.specs.Entries.{put_entry}

-- the members of a text's front matter, and the template that it is; a layout is one, whose front
-- matter may name a further layout
pub record SiteText : Type 0 where
  pub front : Pairs
  pub nodes : Nodes

-- by their paths below the site's folder, in the order of these; layouts by their names
abbrev pub SiteTexts : Type 0
SiteTexts = List (Text × SiteText)

-- a text that is written as a page of its own, with its path
abbrev pub SiteDocument : Type 0
SiteDocument = Text × SiteText

-- How runs go, the configuration, what data files give, pages, the documents of each collection,
-- layouts, partials, and the paths of static files: each of them in the order of its name.
pub record SiteSources : Type 0 where
  pub setting : RunSetting
  pub config : Pairs
  pub «data» : Pairs
  pub pages : SiteTexts
  pub collections : List (Text × SiteTexts)
  pub layouts : SiteTexts
  pub partials : List (Text × Nodes)
  pub statics : List Text

-- nothing but the names of the collections
abbrev pub no_sources : RunSetting → List (Text × SiteTexts) → SiteSources
no_sources setting collections = record {
  setting = setting;
  config = no_pairs;
  «data» = no_pairs;
  pages = [];
  collections = collections;
  layouts = [];
  partials = [];
  statics = [];
}

-- ---- one part in the place of what was there

abbrev pub put_page : Text → SiteText → SiteSources → SiteSources
put_page path t s = record s { pages = put_entry path t s.pages }

abbrev pub documents_in : Text → List (Text × SiteTexts) → SiteTexts
documents_in name collections = unwrap_or (listed collections name) []

abbrev pub put_document : Text → Text → SiteText → SiteSources → SiteSources
put_document name path t s = record s {
  collections = put_entry name (put_entry path t (documents_in name s.collections)) s.collections;
}

abbrev pub put_layout : Text → SiteText → SiteSources → SiteSources
put_layout name t s = record s { layouts = put_entry name t s.layouts }

abbrev pub put_partial : Text → Nodes → SiteSources → SiteSources
put_partial name t s = record s { partials = put_entry name t s.partials }

-- the names with one more, in their order
abbrev pub put_name : Text → List Text → List Text
put_name name [] = name ∷ []
put_name name (n ∷ ns) = match_ordering (slice_cmp nat_cmp name n) (name ∷ n ∷ ns) (n ∷ ns)
    (n ∷ put_name name ns)

abbrev pub put_static : Text → SiteSources → SiteSources
put_static path s = record s { statics = put_name path s.statics }

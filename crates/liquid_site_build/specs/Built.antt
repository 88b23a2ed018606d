-- What a site is built to: a function of its sources alone.
--     SiteRules      what isn't written in its sources: filters of the host, and conversions
--     document_content      what a document of a collection comes to: its own text
--     document_outcome, site_page_outcome      a document and a page in their layouts
--     outcomes rules s      what each comes to, with the path of its file
use Rattle.std.specs.Prelude.{List, [], ◌∷◌, ◌++◌, map, codes}
use Rattle.std.specs.Prelude.{Option, Some, None, Result, Ok, Err}
use Rattle.liquid_model.specs.Data.{Datum, text, array, object, Pairs, no_pairs, put}
use Rattle.liquid_model.specs.Texts.{Text}
use Rattle.liquid_model.specs.View.{items_of}
use Rattle.liquid_model.specs.declared.error.ErrorKind.{ErrorKind}
use Rattle.liquid_model.specs.FilterAnswers.{FilterAnswer}
use Rattle.liquid_core.specs.Held.{map_of}
use Rattle.liquid_evaluation.specs.Tree.{Nodes}
use Rattle.liquid_engine.specs.HostedPages.{hosted_page}
use Rattle.liquid_engine.specs.Pages.{Shown}
use Rattle.liquid_site_build.specs.Addresses.{address_of, document_file}
use Rattle.liquid_site_build.specs.Chains.{ChainFault, LayoutChain, layout_chain}
use Rattle.liquid_site_build.specs.Sources.{SiteDocument, SiteText, SiteTexts, SiteSources}

-- what the filters of the host answer, by their names; and what a document's text is converted to,
-- by its path, where that is known
pub record SiteRules : Type 0 where
  pub answers : Text → FilterAnswer
  pub conversion : Text → Text → Option Text

-- why a document has no file
pub data PageFault : Type 0 where
  in_document : ErrorKind → PageFault
  in_layout : ErrorKind → PageFault
  no_chain : ChainFault → PageFault
  -- no conversion of this text is known
  unconverted : Text → PageFault
  -- this file would be outside the folder that is written to, or has no name of one
  leads_out : Text → PageFault
  -- the source at this path is written to the same file
  file_taken : Text → PageFault

-- what a text comes to
abbrev pub PageOutcome : Type 0
PageOutcome = Result Text PageFault

-- ---- one run

-- what a template of the site shows over this data
abbrev pub run_over : SiteRules → SiteSources → Pairs → Nodes → Shown
run_over rules s «data» nodes = hosted_page s.setting.missing rules.answers s.setting.depth
    s.partials (map_of «data») nodes

abbrev pub unless_fault : (ErrorKind → PageFault) → Text → Option ErrorKind → PageOutcome
unless_fault why s None = Ok s
unless_fault why s (Some kind) = Err (why kind)

abbrev pub made : (ErrorKind → PageFault) → Shown → PageOutcome
made why page = unless_fault why page.text page.fault

-- a text whose conversion is known
abbrev pub if_converted : Text → Option Text → PageOutcome
if_converted s None = Err (unconverted s)
if_converted s (Some converted) = Ok converted

abbrev pub converted : SiteRules → Text → PageOutcome → PageOutcome
converted rules path (Ok s) = if_converted s (rules.conversion path s)
converted rules path (Err fault) = Err fault

-- what a document's own text comes to over this data
abbrev pub text_over : SiteRules → SiteSources → Pairs → SiteDocument → PageOutcome
text_over rules s «data» d = converted rules d.0
    (made in_document (run_over rules s «data» d.1.nodes))

-- ---- what templates see of the site

-- a document's members, and where it stands
abbrev pub about : SiteDocument → Pairs
about d = put (codes "path") (text d.0)
    (put (codes "url") (text (address_of (document_file d.0 d.1.front))) d.1.front)

-- with its own text, where it has one
abbrev pub with_content : PageOutcome → Pairs → Pairs
with_content (Ok s) ps = put (codes "content") (text s) ps
with_content (Err fault) ps = ps

abbrev pub listed_by : (SiteDocument → Pairs) → SiteTexts → Datum
listed_by view ds = array (items_of (map (λ d. object (view d)) ds))

-- each collection under its name
abbrev pub put_collections : (SiteDocument → Pairs) → List (Text × SiteTexts) → Pairs → Pairs
put_collections view [] ps = ps
put_collections view (c ∷ cs) ps = put_collections view cs (put c.0 (listed_by view c.1) ps)

abbrev pub with_pages : SiteSources → Pairs → Pairs
with_pages s ps = put (codes "data") (object s.«data») (put (codes "pages")
    (listed_by about s.pages) ps)

-- `site`: the configuration's members; over them the collections, `pages` and `data`
abbrev pub site_pairs : (SiteDocument → Pairs) → SiteSources → Pairs
site_pairs view s = with_pages s (put_collections view s.collections s.config)

-- what a text sees: `page`, its own members, and `site`
abbrev pub scope_of : Pairs → Pairs → Pairs
scope_of page site = put (codes "page") (object page) (put (codes "site") (object site) no_pairs)

-- ---- the text of a document

-- the documents of collections see the site without the texts of others
abbrev pub document_scope : SiteSources → SiteDocument → Pairs
document_scope s d = scope_of (about d) (site_pairs about s)

abbrev pub document_content : SiteRules → SiteSources → SiteDocument → PageOutcome
document_content rules s d = text_over rules s (document_scope s d) d

abbrev pub with_own_content : SiteRules → SiteSources → SiteDocument → Pairs
with_own_content rules s d = with_content (document_content rules s d) (about d)

-- pages and layouts see the site with these texts
abbrev pub page_scope : SiteRules → SiteSources → SiteDocument → Pairs
page_scope rules s d = scope_of (about d) (site_pairs (with_own_content rules s) s)

abbrev pub page_content : SiteRules → SiteSources → SiteDocument → PageOutcome
page_content rules s d = text_over rules s (page_scope rules s d) d

-- ---- layouts

-- what a layout sees besides: `content`, the text inside it, and `layout`, its own members
abbrev pub layout_scope : Pairs → Text → SiteText → Pairs
layout_scope scope content l = put (codes "layout") (object l.front)
    (put (codes "content") (text content) scope)

-- the text in its layouts, one around another: the first fault ends it
abbrev pub laid_out : SiteRules → SiteSources → Pairs → List SiteText → PageOutcome → PageOutcome
laid_out rules s scope [] content = content
laid_out rules s scope (l ∷ ls) (Err fault) = Err fault
laid_out rules s scope (l ∷ ls) (Ok content) = laid_out rules s scope ls
    (made in_layout (run_over rules s (layout_scope scope content l) l.nodes))

abbrev pub in_chain : SiteRules → SiteSources → Pairs → LayoutChain → PageOutcome → PageOutcome
in_chain rules s scope (Err fault) content = Err (no_chain fault)
in_chain rules s scope (Ok ls) content = laid_out rules s scope ls content

abbrev pub outcome_with : SiteRules → SiteSources → PageOutcome → SiteDocument → PageOutcome
outcome_with rules s content d =
    in_chain rules s (page_scope rules s d) (layout_chain s.layouts d.1.front) content

abbrev pub document_outcome : SiteRules → SiteSources → SiteDocument → PageOutcome
document_outcome rules s d = outcome_with rules s (document_content rules s d) d

abbrev pub site_page_outcome : SiteRules → SiteSources → SiteDocument → PageOutcome
site_page_outcome rules s d = outcome_with rules s (page_content rules s d) d

-- ---- all of them

-- what the source at a path comes to, and the path of its file
pub record DocumentOutcome : Type 0 where
  pub source : Text
  pub file : Text
  pub outcome : PageOutcome

abbrev pub outcome_by : (SiteDocument → PageOutcome) → SiteDocument → DocumentOutcome
outcome_by f d = record { source = d.0; file = document_file d.0 d.1.front; outcome = f d }

-- the documents of all collections, one collection after another
abbrev pub documents_of : List (Text × SiteTexts) → SiteTexts
documents_of [] = []
documents_of (c ∷ cs) = c.1 ++ documents_of cs

-- pages, and then the documents of each collection
abbrev pub outcomes : SiteRules → SiteSources → List DocumentOutcome
outcomes rules s = map (outcome_by (site_page_outcome rules s)) s.pages
    ++ map (outcome_by (document_outcome rules s)) (documents_of s.collections)

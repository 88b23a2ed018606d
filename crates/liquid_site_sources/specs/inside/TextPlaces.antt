-- Where a text of a site is put, and what one more file adds.
--     put_text place t s      the sources with the text there
use Rattle.std.specs.Prelude.{◌≡◌, ◌++◌, List, Option, Result, Ok, Err}
use Rattle.liquid_model.specs.Texts.{Text}
use Rattle.liquid_model.specs.declared.error.Error.{Error}
use Rattle.liquid_language.specs.declared.registry.Language.{Language}
use Rattle.liquid_parser.specs.Parsing.{HasNoTree, IsOnlyTree}
use Rattle.liquid_syntax.specs.Templates.{tree_of}
use Rattle.liquid_syntax.specs.declared.template.Template.{Template}
use Rattle.liquid_site_build.specs.SiteFiles.{AddsFile, SiteForm, SourceRefusal, refused_by}
use Rattle.liquid_site_build.specs.Sources.{SiteSources, SiteText, put_document, put_layout}
use Rattle.liquid_site_build.specs.Sources.{put_page}
use Rattle.liquid_site_sources.specs.declared.take.TextPlace.{TextPlace}
use Rattle.liquid_site_sources.specs.declared.take.TextPlace.TheVariants as place

abbrev pub put_text : TextPlace → SiteText → SiteSources → SiteSources
put_text (place.Layout name) t s = put_layout name.now t s
put_text (place.Document name path) t s = put_document name.now path.now t s
put_text (place.Page path) t s = put_page path.now t s

-- the text's only tree; or it has none
abbrev pub IsReadTemplate : Language → Text → Result Template Error → Type 0
IsReadTemplate l source (Ok t) = IsOnlyTree l (tree_of t) source
IsReadTemplate l source (Err e) = HasNoTree l source

-- a file adds what it adds, and is noted where it is refused
abbrev pub IsNextFile : SiteForm → Language → Text × Option Text → SiteSources → SiteSources →
    List (Text × SourceRefusal) → List (Text × SourceRefusal) → Type 0
IsNextFile form l f old new before after = (why : Option SourceRefusal) ×
    AddsFile form l f.0 f.1 old new why × (after ≡ before ++ refused_by f.0 why)

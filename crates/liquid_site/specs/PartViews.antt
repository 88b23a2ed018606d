-- What a site holds, whatever the form in which it keeps its pages.
use Rattle.std.specs.Prelude.{ℕ}
use Rattle.liquid_language.specs.declared.registry.Language.{Language}
use Rattle.liquid_site.specs.Contents.{Contents}
use Rattle.liquid_site.specs.Parts.{contents_in}
use Rattle.liquid_site.specs.declared.parts.SiteParts.{SiteParts}

-- the contents, the language of their sources, and how many renderings they took
pub record SiteView : Type 0 where
  pub language : Language
  pub contents : Contents
  pub rendered : ℕ

abbrev pub site_parts_view : {P : Type 0} → SiteParts P → SiteView
site_parts_view s = record {
  language = s.language;
  contents = contents_in s.setting s.templates s.partials s.«data»;
  rendered = s.rendered;
}

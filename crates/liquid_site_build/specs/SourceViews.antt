-- The sources of a site, as contracts see them.
use Rattle.std.specs.Prelude.{List, map, String, string_bytes}
use Rattle.std.specs.BTreeMap.{BTreeMap}
use Rattle.std.specs.declared.alloc.Global.{Global}
use Rattle.liquid_model.specs.View.{pairs_view}
use Rattle.liquid_language.specs.Entries.{seen}
use Rattle.liquid_syntax.specs.Templates.{tree_of, partials_of}
use Rattle.liquid_site_build.specs.Sources as model
use Rattle.liquid_site_build.specs.declared.sources.SiteText.{SiteText}
use Rattle.liquid_site_build.specs.declared.sources.SiteSources.{SiteSources}

abbrev pub site_text_view : SiteText → model.SiteText
site_text_view t = record { front = pairs_view t.front.entries; nodes = tree_of t.template }

abbrev pub site_texts_view : BTreeMap (String Global) SiteText → model.SiteTexts
site_texts_view texts = seen site_text_view texts.entries

abbrev pub sources_view : SiteSources → model.SiteSources
sources_view s = record {
  setting = s.setting;
  config = pairs_view s.config.entries;
  «data» = pairs_view s.«data».entries;
  pages = site_texts_view s.pages;
  collections = seen site_texts_view s.collections.entries;
  layouts = site_texts_view s.layouts;
  partials = partials_of s.partials;
  statics = map string_bytes s.statics.keys;
}

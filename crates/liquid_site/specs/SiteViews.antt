-- What a site holds.
use Rattle.std.specs.Prelude.{ℕ}
use Rattle.liquid_language.specs.declared.registry.Language.{Language}
use Rattle.liquid_site.specs.Contents.{Contents}
use Rattle.liquid_site.specs.PartViews.{SiteView, site_parts_view}
use Rattle.liquid_site.specs.declared.site.Site.{Site}

abbrev pub site_view : Site → SiteView
site_view s = site_parts_view s.parts

abbrev pub contents_of : Site → Contents
contents_of s = (site_view s).contents

abbrev pub language_of : Site → Language
language_of s = (site_view s).language

abbrev pub rendered_count : Site → ℕ
rendered_count s = (site_view s).rendered

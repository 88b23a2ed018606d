-- What a site within limits holds.
use Rattle.liquid_engine.specs.declared.limits.Limits.{Limits}
use Rattle.liquid_site.specs.PartViews.{SiteView, site_parts_view}
use Rattle.liquid_site.specs.declared.limited_site.LimitedSite.{LimitedSite}

abbrev pub limited_view : LimitedSite → SiteView
limited_view s = site_parts_view s.parts

abbrev pub limits_of : LimitedSite → Limits
limits_of s = s.limits

-- The parts of a site whose pages are right.
use Rattle.liquid_engine.specs.Pages.{Shown}
use Rattle.liquid_site.specs.Contents.{pages_from_scratch}
use Rattle.liquid_site.specs.PartViews.{site_parts_view}
use Rattle.liquid_site.specs.Parts.{by_name}
use Rattle.liquid_site.specs.ShownPages.{AreShown}
use Rattle.liquid_site.specs.declared.parts.SiteParts.{SiteParts}

-- each page is right for the one that rendering the contents from nothing gives
abbrev pub KeepsPages : {P : Type 0} → (Shown → P → Type 0) → SiteParts P → Type 0
KeepsPages shows s = AreShown shows (pages_from_scratch (site_parts_view s).contents)
    (by_name s.pages)

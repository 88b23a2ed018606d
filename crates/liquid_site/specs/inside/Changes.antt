-- Changes of a site, by what it answers to them.
use Rattle.std.specs.Prelude.{◌≡◌, ◌⊎◌, Option, None, string_bytes}
use Rattle.liquid_language.specs.declared.registry.Language.{Language}
use Rattle.liquid_site.specs.Applied.{Accepted, HasBadSource}
use Rattle.liquid_site.specs.SiteViews.{contents_of, language_of}
use Rattle.liquid_site.specs.declared.change.Change.{Change}
use Rattle.liquid_site.specs.declared.change.Change.TheVariants.{SetPage, SetPartial}
use Rattle.liquid_site.specs.declared.site.Site.{Site}
use Rattle.liquid_site.specs.Refusals.{RefusesSource}
use Rattle.liquid_site.specs.declared.take.RefusalReason.{RefusalReason}

-- a change was accepted, or its source is no template and nothing changed
abbrev pub TakesChange : Change → Site → Site → Type 0
TakesChange change old new = Accepted change old new ⊎ (HasBadSource (language_of old) change ×
    (contents_of new ≡ contents_of old))

-- a change is refused for its source, and one without a source is not
abbrev pub RefusesChange : Language → Change → Option RefusalReason → Type 0
RefusesChange l (SetPage name source) why = RefusesSource l (string_bytes source) why
RefusesChange l (SetPartial name source) why = RefusesSource l (string_bytes source) why
RefusesChange l _ why = why ≡ None

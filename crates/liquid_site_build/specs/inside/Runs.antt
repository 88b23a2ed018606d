-- Runs of a site's texts, as contracts inside see them.
--     rules_in named conversion builder      the rules that a builder goes by
--     IsScope ps      the scope of a page: `page` and `site`
use Rattle.std.specs.Prelude.{◌≡◌, Option}
use Rattle.liquid_model.specs.Data.{Pairs}
use Rattle.liquid_model.specs.FilterAnswers.{FilterAnswer}
use Rattle.liquid_model.specs.Texts.{Text}
use Rattle.liquid_site_build.specs.Built.{SiteRules, scope_of}
use Rattle.liquid_site_build.specs.declared.run.Builder.{Builder}

abbrev pub rules_in : {H C : Type 0} → (H → Text → FilterAnswer) → (C → Text → Text → Option Text)
    → Builder H C → SiteRules
rules_in named conversion b = record {
  answers = named b.host.now;
  conversion = conversion b.conversions.now;
}

abbrev pub IsScope : Pairs → Type 0
IsScope ps = (page : Pairs) × (site : Pairs) × (ps ≡ scope_of page site)

-- the scope of some page over this site
abbrev pub IsScopeOver : Pairs → Pairs → Type 0
IsScopeOver site ps = (page : Pairs) × (ps ≡ scope_of page site)

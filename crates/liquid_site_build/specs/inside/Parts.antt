-- Documents of collections with what their own texts come to.
use Rattle.std.specs.Prelude.{List, map}
use Rattle.liquid_model.specs.Data.{Pairs}
use Rattle.liquid_site_build.specs.Addresses.{document_file}
use Rattle.liquid_site_build.specs.Built.{DocumentOutcome, PageOutcome, SiteRules}
use Rattle.liquid_site_build.specs.Built.{document_content, in_chain, outcome_by, outcome_with}
use Rattle.liquid_site_build.specs.Chains.{layout_chain}
use Rattle.liquid_site_build.specs.OutcomeViews.{page_outcome_view}
use Rattle.liquid_site_build.specs.SourceViews.{site_text_view}
use Rattle.liquid_site_build.specs.Sources.{SiteDocument, SiteSources, SiteTexts}
use Rattle.liquid_site_build.specs.declared.build.Part.{Part}

abbrev pub content_part_view : Part → SiteDocument × PageOutcome
content_part_view p = ((p.path.now, site_text_view p.text.now), page_outcome_view p.content)

abbrev pub with_contents : SiteRules → SiteSources → SiteTexts → List (SiteDocument × PageOutcome)
with_contents rules s ds = map (λ d. (d, document_content rules s d)) ds

-- a document with this content, in its layouts over this scope
abbrev pub outcome_over : SiteRules → SiteSources → Pairs → SiteDocument → PageOutcome →
    DocumentOutcome
outcome_over rules s scope d content = record {
  source = d.0;
  file = document_file d.0 d.1.front;
  outcome = in_chain rules s scope (layout_chain s.layouts d.1.front) content;
}

abbrev pub outcome_of_part : SiteRules → SiteSources → SiteDocument × PageOutcome → DocumentOutcome
outcome_of_part rules s p = outcome_by (outcome_with rules s p.1) p.0

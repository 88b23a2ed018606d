use Rattle.std.proofs.Common.{◌≡◌, ◌++◌, map}
use Rattle.liquid_language.specs.Entries.{seen}
use Rattle.liquid_model.specs.Data.{Datum, object}
use Rattle.liquid_model.specs.View.{pairs_view, view}
use Rattle.liquid_site_build.specs.Built.{about, site_pairs, with_own_content}
use Rattle.liquid_site_build.specs.SourceViews.{site_text_view, site_texts_view, sources_view}
use Rattle.liquid_site_build.specs.Sources.{SiteDocument}
use Rattle.liquid_site_build.specs.inside.Parts.{content_part_view, with_contents}
use Rattle.liquid_site_build.specs.inside.Runs.{IsScopeOver, rules_in}
use Rattle.liquid_site_build.proofs.run.Builder.listed_with_texts.Given as goal

abbrev pub invariant-loop-path : goal.invariant-loop-path
invariant-loop-path g l =
    let rules = rules_in g.H.NamedFilters.named g.C.Conversions.conversion l.self in
    let s = sources_view l.self.sources.now in
    let f : SiteDocument → Datum = λ d. object (with_own_content rules s d) in
    record {
      items : map view l.items.items ++ map f (seen site_text_view l.path-iterator) ≡ map f (site_texts_view l.texts);
      parts : map content_part_view l.parts.items ++ with_contents rules s (seen site_text_view l.path-iterator) ≡ map content_part_view l.initial.parts.items ++ with_contents rules s (site_texts_view l.texts);
      scope : IsScopeOver (site_pairs about s) (pairs_view l.scope.entries);
    }

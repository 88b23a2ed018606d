use Rattle.std.proofs.Common.{◌≡◌, ◌++◌, map}
use Rattle.liquid_language.specs.Entries.{seen}
use Rattle.liquid_model.specs.View.{pairs_view}
use Rattle.liquid_site_build.specs.Built.{outcome_by, site_page_outcome, site_pairs, with_own_content}
use Rattle.liquid_site_build.specs.OutcomeViews.{document_outcome_view}
use Rattle.liquid_site_build.specs.SourceViews.{site_text_view, sources_view}
use Rattle.liquid_site_build.specs.inside.Runs.{IsScopeOver, rules_in}
use Rattle.liquid_site_build.proofs.run.Builder.add_pages.Given as goal

abbrev pub invariant-loop-path : goal.invariant-loop-path
invariant-loop-path g l =
    let rules = rules_in g.H.NamedFilters.named g.C.Conversions.conversion l.self in
    let s = sources_view l.self.sources.now in
    let f = outcome_by (site_page_outcome rules s) in
    record {
      added : map document_outcome_view l.outcomes.items ++ map f (seen site_text_view l.path-iterator) ≡ map document_outcome_view l.initial.outcomes.items ++ map f s.pages;
      scope : IsScopeOver (site_pairs (with_own_content rules s) s) (pairs_view l.scope.entries);
    }

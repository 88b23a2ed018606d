use Rattle.std.proofs.Common.{◌≡◌, ◌++◌, length, map}
use Rattle.std.specs.Vec.Iter.{into_iter_items, into_iter_len}
use Rattle.liquid_model.specs.View.{pairs_view}
use Rattle.liquid_site_build.specs.Built.{site_pairs, with_own_content}
use Rattle.liquid_site_build.specs.OutcomeViews.{document_outcome_view}
use Rattle.liquid_site_build.specs.SourceViews.{sources_view}
use Rattle.liquid_site_build.specs.inside.Parts.{outcome_of_part, content_part_view}
use Rattle.liquid_site_build.specs.inside.Runs.{IsScopeOver, rules_in}
use Rattle.liquid_site_build.proofs.run.Builder.add_documents.Given as goal

abbrev pub invariant-loop-part : goal.invariant-loop-part
invariant-loop-part g l =
    let rules = rules_in g.H.NamedFilters.named g.C.Conversions.conversion l.self in
    let s = sources_view l.self.sources.now in
    let f = outcome_of_part rules s in
    record {
      counted : into_iter_len l.part-iterator ≡ length (into_iter_items l.part-iterator);
      added : map document_outcome_view l.outcomes.items ++ map f (map content_part_view (into_iter_items l.part-iterator)) ≡ map document_outcome_view l.initial.outcomes.items ++ map f (map content_part_view (into_iter_items l.initial.part-iterator));
      scope : IsScopeOver (site_pairs (with_own_content rules s) s) (pairs_view l.scope.entries);
    }

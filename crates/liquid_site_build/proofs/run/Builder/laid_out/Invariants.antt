use Rattle.std.proofs.Common.{◌≡◌, length, map}
use Rattle.std.specs.Vec.Iter.{into_iter_items, into_iter_len}
use Rattle.liquid_model.specs.View.{pairs_view}
use Rattle.liquid_site_build.specs.Built.{laid_out}
use Rattle.liquid_site_build.specs.OutcomeViews.{page_outcome_view}
use Rattle.liquid_site_build.specs.SourceViews.{site_text_view, sources_view}
use Rattle.liquid_site_build.specs.inside.Runs.{rules_in}
use Rattle.liquid_site_build.proofs.run.Builder.laid_out.Given as goal

-- the layouts that are left make of the text so far what all make of it at first
abbrev pub invariant-loop-layout : goal.invariant-loop-layout
invariant-loop-layout g l =
    let rules = rules_in g.H.NamedFilters.named g.C.Conversions.conversion l.self in
    let s = sources_view l.self.sources.now in
    let scope = pairs_view l.initial.scope.entries in
    record {
      counted : into_iter_len l.layout-iterator ≡ length (into_iter_items l.layout-iterator);
      laid : laid_out rules s scope (map (λ x. site_text_view x.now) (into_iter_items l.layout-iterator)) (page_outcome_view l.outcome) ≡ laid_out rules s scope (map (λ x. site_text_view x.now) (into_iter_items l.initial.layout-iterator)) (page_outcome_view l.initial.outcome);
      same : pairs_view l.scope.entries ≡ scope;
    }

use Rattle.std.proofs.Common.{◌≡◌, [], ◌∷◌, ◌++◌, map, length, string_bytes, sym, ap, ◌∙◌, append_assoc, arith}
use Rattle.std.proofs.lemmas.List.{map-append, nil_from_length}
use Rattle.std.specs.Vec.Iter.{into_iter_items}
use Rattle.liquid_language.specs.Entries.{seen}
use Rattle.liquid_model.specs.Data.{object, put}
use Rattle.liquid_model.specs.View.{pairs_view, view}
use Rattle.liquid_model.proofs.Views.{view-Object}
use Rattle.liquid_site_build.specs.Built.{about, document_content, documents_of, listed_by, outcome_by, page_content, put_collections, scope_of, site_page_outcome, site_pairs, text_over, with_content, with_own_content}
use Rattle.liquid_site_build.specs.OutcomeViews.{document_outcome_view, page_outcome_view}
use Rattle.liquid_site_build.specs.SourceViews.{site_text_view, site_texts_view, sources_view}
use Rattle.liquid_site_build.specs.Sources.{SiteDocument}
use Rattle.liquid_site_build.specs.inside.Parts.{outcome_of_part, outcome_over, content_part_view, with_contents}
use Rattle.liquid_site_build.specs.inside.Runs.{rules_in}
use Rattle.liquid_site_build.proofs.Lists.{one_more}
use Rattle.liquid_site_build.proofs.Taken.{page_again}
use Rattle.liquid_site_build.proofs.run.Builder.add_documents.Goals as goal

pub outcome-requires : goal.outcome-requires
outcome-requires g c =
    let rules = rules_in g.H.NamedFilters.named g.C.Conversions.conversion c.args.self.now in
    let s = sources_view c.args.self.now.sources.now in
    let site = site_pairs (with_own_content rules s) s in
    (pairs_view c.in_ok-members.members.entries, site, c.in_ok-put.ensures ∙ page_again (pairs_view c.in_ok-members.members.entries) c.loop-part.invariant.scope.0 site _ c.loop-part.invariant.scope.1 (view-Object c.in_ok-members.members))

pub loop-part-preserved : goal.loop-part-preserved
loop-part-preserved g c =
    let b = c.args.self.now in
    let rules = rules_in g.H.NamedFilters.named g.C.Conversions.conversion b in
    let s = sources_view b.sources.now in
    let site = site_pairs (with_own_content rules s) s in
    let p = content_part_view c.in-Some.part in
    let f = outcome_of_part rules s in
    let l = c.loop-part in
    let scope = c.in_ok-put.ensures ∙ page_again (pairs_view c.in_ok-members.members.entries) l.invariant.scope.0 site _ l.invariant.scope.1 (view-Object c.in_ok-members.members) ∙ ap (λ ps. scope_of ps site) c.in_ok-members.ensures in
    let own = c.in_ok-outcome.ensures.outcome ∙ ap (λ ps. outcome_over rules s ps p.0 p.1) scope in
    record {
      counted = omega (arith, c.in-Some.ensures.steps.1, l.invariant.counted, ap length c.in-Some.ensures.steps.0);
      added = one_more f (map document_outcome_view l.outcomes.items) (map document_outcome_view c.push.new.self.items) _ p _ (map content_part_view (into_iter_items c.next.new.self))
          (ap (map document_outcome_view) c.in_ok-push.ensures.items ∙ map-append document_outcome_view l.outcomes.items (_ ∷ []))
          own
          (ap (λ ps. map document_outcome_view l.outcomes.items ++ map f (map content_part_view ps)) (sym c.in-Some.ensures.steps.0) ∙ l.invariant.added);
      scope = (about p.0, c.in_ok-outcome.ensures.same ∙ scope);
    }

use Rattle.std.proofs.Common.{◌≡◌, [], ◌∷◌, ◌++◌, map, length, string_bytes, sym, ap, ◌∙◌, append_assoc, arith}
use Rattle.std.proofs.lemmas.List.{map-append, nil_from_length}
use Rattle.std.specs.Vec.Iter.{into_iter_items}
use Rattle.liquid_language.specs.Entries.{seen}
use Rattle.liquid_model.specs.Data.{object, put}
use Rattle.liquid_model.specs.View.{pairs_view, view}
use Rattle.liquid_model.proofs.Views.{view-Object}
use Rattle.liquid_site_build.specs.Built.{about, document_content, documents_of, listed_by, outcome_by, page_content, put_collections, scope_of, site_page_outcome, site_pairs, text_over, with_content, with_own_content}
use Rattle.liquid_site_build.specs.OutcomeViews.{document_outcome_view, page_outcome_view}
use Rattle.liquid_site_build.specs.SourceViews.{site_text_view, site_texts_view, sources_view}
use Rattle.liquid_site_build.specs.Sources.{SiteDocument}
use Rattle.liquid_site_build.specs.inside.Parts.{outcome_of_part, outcome_over, content_part_view, with_contents}
use Rattle.liquid_site_build.specs.inside.Runs.{rules_in}
use Rattle.liquid_site_build.proofs.Lists.{one_more}
use Rattle.liquid_site_build.proofs.run.Builder.add_pages.Goals as goal

pub outcome-requires : goal.outcome-requires
outcome-requires g c =
    let rules = rules_in g.H.NamedFilters.named g.C.Conversions.conversion c.args.self.now in
    let s = sources_view c.args.self.now.sources.now in
    let site = site_pairs (with_own_content rules s) s in
    (about (c.as_str-path.result.now, site_text_view c.in-Some.text.now), site, c.in_ok-content.ensures.scope site c.loop-path.invariant.scope)

pub loop-path-preserved : goal.loop-path-preserved
loop-path-preserved g c =
    let b = c.args.self.now in
    let rules = rules_in g.H.NamedFilters.named g.C.Conversions.conversion b in
    let s = sources_view b.sources.now in
    let site = site_pairs (with_own_content rules s) s in
    let t = site_text_view c.in-Some.text.now in
    let d : SiteDocument = (string_bytes c.in-Some.path.now, t) in
    let f = outcome_by (site_page_outcome rules s) in
    let named = c.as_str-path.ensures.value in
    let l = c.loop-path in
    let content = c.in_ok-content.ensures.text site l.invariant.scope in
    let scope = c.in_ok-content.ensures.scope site l.invariant.scope in
    let own = c.in_ok-outcome.ensures.outcome
    ∙ (λ i. outcome_over rules s (scope i) (c.as_str-path.result.now, t) (content i))
    ∙ ap (λ p. f (p, t)) named in
    record {
      added = one_more f (map document_outcome_view l.outcomes.items) (map document_outcome_view c.push.new.self.items) _ d _ (seen site_text_view c.next.new.self)
          (ap (map document_outcome_view) c.in_ok-push.ensures.items ∙ map-append document_outcome_view l.outcomes.items (_ ∷ []))
          own
          (ap (λ es. map document_outcome_view l.outcomes.items ++ map f (seen site_text_view es)) (sym c.in-Some.ensures.steps) ∙ l.invariant.added);
      scope = (about (c.as_str-path.result.now, t), c.in_ok-outcome.ensures.same ∙ scope);
    }

use Rattle.std.proofs.Common.{◌≡◌, [], ◌∷◌, ◌++◌, map, length, string_bytes, sym, ap, ◌∙◌, append_assoc, arith}
use Rattle.std.proofs.lemmas.List.{map-append, nil_from_length}
use Rattle.std.specs.Vec.Iter.{into_iter_items}
use Rattle.liquid_language.specs.Entries.{seen}
use Rattle.liquid_model.specs.Data.{Datum, object, put}
use Rattle.liquid_model.specs.View.{pairs_view, view}
use Rattle.liquid_model.proofs.Views.{view-Object}
use Rattle.liquid_site_build.specs.Built.{PageOutcome, about, document_content, documents_of, listed_by, outcome_by, page_content, put_collections, scope_of, site_page_outcome, site_pairs, text_over, with_content, with_own_content}
use Rattle.liquid_site_build.specs.OutcomeViews.{document_outcome_view, page_outcome_view}
use Rattle.liquid_site_build.specs.SourceViews.{site_text_view, site_texts_view, sources_view}
use Rattle.liquid_site_build.specs.Sources.{SiteDocument}
use Rattle.liquid_site_build.specs.inside.Parts.{outcome_of_part, outcome_over, content_part_view, with_contents}
use Rattle.liquid_site_build.specs.inside.Runs.{rules_in}
use Rattle.liquid_site_build.proofs.Lists.{one_more}
use Rattle.liquid_site_build.proofs.run.Builder.listed_with_texts.Goals as goal

pub loop-path-preserved : goal.loop-path-preserved
loop-path-preserved g c =
    let b = c.args.self.now in
    let rules = rules_in g.H.NamedFilters.named g.C.Conversions.conversion b in
    let s = sources_view b.sources.now in
    let site = site_pairs about s in
    let d : SiteDocument = (string_bytes c.in-Some.path.now, site_text_view c.in-Some.text.now) in
    let f : SiteDocument → Datum = λ e. object (with_own_content rules s e) in
    let h : SiteDocument → SiteDocument × PageOutcome = λ e. (e, document_content rules s e) in
    let named = c.as_str-path.ensures.value in
    let l = c.loop-path in
    let over = l.invariant.scope in
    let content : page_outcome_view c.in_ok-content.content ≡ document_content rules s d =
    c.in_ok-content.ensures.text site over ∙ ap (λ p. text_over rules s (scope_of (about (p, d.1)) site) (p, d.1)) named in
    let item : pairs_view c.in_ok-item.item.entries ≡ with_own_content rules s d =
    c.in_ok-item.ensures ∙ ap (λ o. with_content o (pairs_view c.in_ok-members.members.entries)) content
    ∙ ap (with_content (document_content rules s d)) (c.in_ok-members.ensures ∙ ap (λ p. about (p, d.1)) named) in
    record {
      items = one_more f (map view l.items.items) (map view c.push.new.self.items) (map f (site_texts_view c.args.texts.now)) d _ (seen site_text_view c.next.new.self)
          (ap (map view) c.in_ok-push.ensures.items ∙ map-append view l.items.items (_ ∷ []))
          (view-Object c.in_ok-item.item ∙ ap object item)
          (ap (λ es. map view l.items.items ++ map f (seen site_text_view es)) (sym c.in-Some.ensures.steps) ∙ l.invariant.items);
      parts = one_more h (map content_part_view l.parts.items) (map content_part_view c.push-in-loop-path.new.self.items) _ d _ (seen site_text_view c.next.new.self)
          (ap (map content_part_view) c.in_ok-push-2.ensures.items ∙ map-append content_part_view l.parts.items (_ ∷ []))
          (λ i. ((named i, d.1), content i))
          (ap (λ es. map content_part_view l.parts.items ++ with_contents rules s (seen site_text_view es)) (sym c.in-Some.ensures.steps) ∙ l.invariant.parts);
      scope = (about (c.as_str-path.result.now, d.1), c.in_ok-content.ensures.scope site over);
    }

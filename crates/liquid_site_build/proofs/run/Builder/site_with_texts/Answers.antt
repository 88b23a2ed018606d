use Rattle.std.proofs.Common.{◌≡◌, [], ◌∷◌, ◌++◌, map, length, string_bytes, sym, ap, ◌∙◌, append_assoc, arith}
use Rattle.std.proofs.lemmas.List.{map-append, nil_from_length}
use Rattle.std.specs.Vec.Iter.{into_iter_items}
use Rattle.liquid_language.specs.Entries.{seen}
use Rattle.liquid_model.specs.Data.{object, put}
use Rattle.liquid_model.specs.View.{pairs_view, view}
use Rattle.liquid_model.proofs.Views.{view-Object}
use Rattle.liquid_site_build.specs.Built.{PageOutcome, about, document_content, documents_of, listed_by, outcome_by, page_content, put_collections, scope_of, site_page_outcome, site_pairs, text_over, with_content, with_own_content}
use Rattle.liquid_site_build.specs.OutcomeViews.{document_outcome_view, page_outcome_view}
use Rattle.liquid_site_build.specs.SourceViews.{site_text_view, site_texts_view, sources_view}
use Rattle.liquid_site_build.specs.Sources.{SiteDocument}
use Rattle.liquid_site_build.specs.inside.Parts.{outcome_of_part, outcome_over, content_part_view, with_contents}
use Rattle.liquid_site_build.specs.inside.Runs.{rules_in}
use Rattle.liquid_site_build.proofs.Lists.{one_more}
use Rattle.liquid_site_build.proofs.run.Builder.site_with_texts.Goals as goal

pub loop-name-preserved : goal.loop-name-preserved
loop-name-preserved g c =
    let b = c.args.self.now in
    let rules = rules_in g.H.NamedFilters.named g.C.Conversions.conversion b in
    let s = sources_view b.sources.now in
    let v = with_own_content rules s in
    let l = c.loop-name in
    let ts = site_texts_view c.in-Some.texts.now in
    let rest = seen site_texts_view c.next.new.self in
    let h : SiteDocument → SiteDocument × PageOutcome = λ e. (e, document_content rules s e) in
    record {
      site = ap (put_collections v rest) (c.in_ok-put.ensures ∙ (λ i. put (c.as_str.ensures.value i) (c.in_ok-listed.ensures.listed i) (pairs_view l.site.entries)))
          ∙ ap (λ es. put_collections v (seen site_texts_view es) (pairs_view l.site.entries)) (sym c.in-Some.ensures.steps) ∙ l.invariant.site;
      parts = ap (λ ps. ps ++ with_contents rules s (documents_of rest)) c.in_ok-listed.ensures.parts
          ∙ append_assoc (map content_part_view l.parts.items) (with_contents rules s ts) (with_contents rules s (documents_of rest))
          ∙ ap (λ ps. map content_part_view l.parts.items ++ ps) (sym (map-append h ts (documents_of rest)))
          ∙ ap (λ es. map content_part_view l.parts.items ++ with_contents rules s (documents_of (seen site_texts_view es))) (sym c.in-Some.ensures.steps) ∙ l.invariant.parts;
      scope = c.in_ok-listed.ensures.scope;
    }

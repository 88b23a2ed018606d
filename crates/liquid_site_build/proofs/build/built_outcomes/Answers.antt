use Rattle.std.proofs.Common.{◌≡◌, ◌++◌, map, ap, ◌∙◌}
use Rattle.liquid_model.specs.Data.{no_pairs}
use Rattle.liquid_site_build.specs.Built.{SiteRules, documents_of, outcome_by, scope_of, site_page_outcome}
use Rattle.liquid_site_build.specs.OutcomeViews.{document_outcome_view}
use Rattle.liquid_site_build.specs.SourceViews.{sources_view}
use Rattle.liquid_site_build.specs.inside.Parts.{outcome_of_part, content_part_view, with_contents}
use Rattle.liquid_site_build.proofs.Lists.{parts_outcomes}
use Rattle.liquid_site_build.proofs.build.built_outcomes.Goals as goal

pub site_with_texts-requires : goal.site_with_texts-requires
site_with_texts-requires g c = (no_pairs, c.in_ok-plain.ensures ∙ ap (scope_of no_pairs) c.in_ok-plain_site.ensures)

pub add_pages-requires : goal.add_pages-requires
add_pages-requires g c = (no_pairs, c.in_ok-scope.ensures ∙ ap (scope_of no_pairs) c.in_ok-site.ensures.site)

pub add_documents-requires : goal.add_documents-requires
add_documents-requires g c = c.in_ok-add_pages.ensures.scope

pub returns : goal.returns
returns g c =
    let rules : SiteRules = record { answers = g.H.NamedFilters.named c.args.host.now; conversion = g.C.Conversions.conversion c.args.conversions.now } in
    let s = sources_view c.args.sources.now in
    let pages = c.in_ok-add_pages.ensures.added ∙ ap (λ os. map document_outcome_view os ++ map (outcome_by (site_page_outcome rules s)) s.pages) c.new-outcomes.ensures.items in
    let parts = c.in_ok-site.ensures.parts ∙ ap (λ ps. map content_part_view ps ++ with_contents rules s (documents_of s.collections)) c.new-parts.ensures.items in
    c.in_ok-add_documents.ensures ∙ (λ i. pages i ++ map (outcome_of_part rules s) (parts i))
    ∙ ap (λ os. map (outcome_by (site_page_outcome rules s)) s.pages ++ os) (parts_outcomes rules s (documents_of s.collections))

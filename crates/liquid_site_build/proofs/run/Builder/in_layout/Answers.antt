use Rattle.std.proofs.Common.{◌≡◌, codes, string_bytes, sym, ap, ◌∙◌}
use Rattle.liquid_model.specs.Data.{object, put, text}
use Rattle.liquid_model.specs.View.{pairs_view, view}
use Rattle.liquid_model.proofs.Views.{view-Object, view-Text}
use Rattle.liquid_site_build.specs.Built.{in_layout, layout_scope, made, run_over}
use Rattle.liquid_site_build.specs.SourceViews.{site_text_view, sources_view}
use Rattle.liquid_site_build.specs.inside.Runs.{rules_in}
use Rattle.liquid_site_build.proofs.Taken.{layout_put, scope_again, taken, taken_view}
use Rattle.liquid_site_build.proofs.run.Builder.in_layout.Goals as goal

pub returns-clause-laid : goal.returns-clause-laid
returns-clause-laid g c =
    let rules = rules_in g.H.NamedFilters.named g.C.Conversions.conversion c.args.self.now in
    let s = sources_view c.args.self.now.sources.now in
    let l = site_text_view c.args.layout.now in
    let scope = layout_put (pairs_view c.args.scope.now.entries) (pairs_view c.put.new.object.entries) (pairs_view c.put-2.new.object.entries) (string_bytes c.args.inner) l c.in_ok-put.ensures (view-Text c.args.inner) c.in_ok-put-2.ensures (view-Object c.in_ok-members.members ∙ ap object c.in_ok-members.ensures) in
    c.outcome_in_layout.ensures ∙ ap (made in_layout) (c.in_ok-page.ensures ∙ ap (λ ps. run_over rules s ps l.nodes) scope)

pub returns-clause-same : goal.returns-clause-same
returns-clause-same g c =
    let l = site_text_view c.args.layout.now in
    let scope = layout_put (pairs_view c.args.scope.now.entries) (pairs_view c.put.new.object.entries) (pairs_view c.put-2.new.object.entries) (string_bytes c.args.inner) l c.in_ok-put.ensures (view-Text c.args.inner) c.in_ok-put-2.ensures (view-Object c.in_ok-members.members ∙ ap object c.in_ok-members.ensures) in
    let over = c.requires in
    ap pairs_view c.remove-2.ensures.entries ∙ taken_view (codes "layout") c.remove.new.self.entries
    ∙ ap (taken (codes "layout")) (ap pairs_view c.remove.ensures.entries ∙ taken_view (codes "content") c.put-2.new.object.entries ∙ ap (taken (codes "content")) (scope ∙ ap (λ ps. layout_scope ps (string_bytes c.args.inner) l) over.2))
    ∙ scope_again over.0 over.1 (string_bytes c.args.inner) l ∙ sym over.2

use Rattle.std.proofs.Common.{◌≡◌, ◌∷◌, length, map, string_bytes, sym, ap, ◌∙◌, arith}
use Rattle.std.specs.Vec.Iter.{into_iter_items}
use Rattle.liquid_model.specs.View.{pairs_view}
use Rattle.liquid_site_build.specs.Built.{in_layout, laid_out, layout_scope, made, run_over}
use Rattle.liquid_site_build.specs.OutcomeViews.{page_outcome_view, page_fault_view}
use Rattle.liquid_site_build.specs.SourceViews.{site_text_view, sources_view}
use Rattle.liquid_site_build.specs.inside.Runs.{rules_in}
use Rattle.liquid_site_build.proofs.Untouched.{laid_out_fault}
use Rattle.liquid_site_build.proofs.run.Builder.laid_out.Goals as goal

pub in_layout-requires : goal.in_layout-requires
in_layout-requires g c = (c.requires.0, c.requires.1, c.loop-layout.invariant.same ∙ c.requires.2)

pub loop-layout-preserved : goal.loop-layout-preserved
loop-layout-preserved g c =
    let b = c.args.self.now in
    let rules = rules_in g.H.NamedFilters.named g.C.Conversions.conversion b in
    let s = sources_view b.sources.now in
    let scope = pairs_view c.args.scope.now.entries in
    let l = c.loop-layout in
    let layout = site_text_view c.in-Some.layout.now in
    let rest = map (λ x. site_text_view x.now) (into_iter_items c.next.new.self) in
    let inner = string_bytes c.in-Page.inner in
    record {
      counted = omega (arith, c.in-Some.ensures.steps.1, l.invariant.counted, ap length c.in-Some.ensures.steps.0);
      laid = ap (laid_out rules s scope rest) (c.in_ok-outcome-in-Page.ensures.laid ∙ ap (λ ps. made in_layout (run_over rules s (layout_scope ps inner layout) layout.nodes)) l.invariant.same)
          ∙ ap (λ o. laid_out rules s scope (layout ∷ rest) (page_outcome_view o)) (sym c.in-Page.is)
          ∙ ap (λ ls. laid_out rules s scope (map (λ x. site_text_view x.now) ls) (page_outcome_view l.outcome)) (sym c.in-Some.ensures.steps.0) ∙ l.invariant.laid;
      same = c.in_ok-outcome-in-Page.ensures.same ∙ l.invariant.same;
    }

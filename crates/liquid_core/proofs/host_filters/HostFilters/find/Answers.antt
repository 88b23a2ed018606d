use Rattle.std.proofs.Common.{ap, sym, ◌∙◌, option_map}
use Rattle.liquid_model.specs.Texts.{same_text}
use Rattle.liquid_core.proofs.Hosts.{last_is_this, last_is_before}
use Rattle.liquid_core.proofs.host_filters.HostFilters.find.Goals as goal
use Rattle.liquid_core.proofs.host_filters.HostFilters.find.Goals.{then-eq, else-eq}

pub loop-known-preserved : goal.loop-known-preserved
loop-known-preserved g c =
    let same = ap (λ k. same_text k c.args.name.now) (sym c.as_str.ensures.value) in
    elim c.if-eq.branch [
      | then-eq w ↦ last_is_this _ _ _ c.loop-known-item.result _ c.loop-known-test.true c.loop-known-item.is (same ∙ sym c.eq.ensures ∙ w.if-eq.true) (ap (option_map (λ b. b.now)) w.found-is)
      | else-eq w ↦ last_is_before _ _ _ c.loop-known-item.result _ c.loop-known-test.true c.loop-known-item.is (same ∙ sym c.eq.ensures ∙ w.if-eq.false) (ap (option_map (λ b. b.now)) w.found-is ∙ c.loop-known.invariant)
    ]

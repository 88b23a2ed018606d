-- A run over data is a run over what is left of it.
use Rattle.std.specs.Prelude.{false}
use mathlib.Core.Path.{refl, sym, ap, ◌∙◌}
use Rattle.liquid_model.specs.Projected.{projected_pairs}
use Rattle.liquid_model.proofs.Projected.{pairs_projected}
use Rattle.liquid_meaning.specs.Meaning.{meaning}
use Rattle.liquid_meaning.specs.ProjectedRuns.{ProjectedRun, SameSight, over_data}
use Rattle.liquid_meaning.proofs.AlikeMaps.{alike_empty}
use Rattle.liquid_meaning.proofs.Reading.{reads_alone}

pub projected_run : ProjectedRun
projected_run needs U setting depth nodes missing ps respects h =
    let r = reads_alone needs U setting depth nodes respects h (over_data missing ps) (over_data missing (projected_pairs U false ps))
    (record { local = alike_empty U; assigned = alike_empty U; counters = alike_empty U; globals = pairs_projected ps U false; registers = refl; missing = refl }) in
    (r.text, r.end)

pub same_sight : SameSight
same_sight needs U setting depth nodes missing ps qs respects h e =
    let r = projected_run needs U setting depth nodes missing ps respects h in
    let s = projected_run needs U setting depth nodes missing qs respects h in
    (r.0 ∙ (ap (λ x. (meaning setting depth nodes (over_data missing x)).text) e ∙ sym s.0), r.1 ∙ (ap (λ x. (meaning setting depth nodes (over_data missing x)).end) e ∙ sym s.1))

use Rattle.std.proofs.Common.{None, string_bytes, sym, ap, ◌∙◌}
use Rattle.liquid_model.specs.Find.{step}
use Rattle.liquid_model.specs.View.{view}
use Rattle.liquid_model.proofs.Views.{view-Text}
use Rattle.liquid_core.specs.LoopFrames.{frame_object, object_part}
use Rattle.liquid_core.proofs.LoopFrames.{part_of_text}
use Rattle.liquid_core.proofs.DirectValues.{directly_as}
use Rattle.liquid_core.proofs.frame.LoopFrame.direct_stepped.Goals as goal

pub returns-in-Text : goal.returns-in-Text
returns-in-Text c local =
    let t = c.args.self.now in
    let d = frame_object t local in
    directly_as c.direct_part.result (object_part d c.as_str.result.now) (step d (view c.args.part.now)) None
    (ap (object_part d) c.as_str.ensures.value ∙ part_of_text t.at t.count local t.kind (string_bytes c.in-Text.name) ∙ sym (ap (step d) (view-Text c.in-Text.name)) ∙ sym (ap (λ v. step d (view v)) c.in-Text.is))
    (c.direct_part.ensures local)

use Rattle.std.proofs.Common.{rules, ◌≡◌, ℤ, pos, Some, sym, ap, ◌∙◌, ◌+◌, ◌-◌}
use mir.Val.{to_z}
use mir.Syntax.{w64}
use Rattle.liquid_model.specs.Data.{number}
use Rattle.liquid_core.specs.LoopFrames.{frame_object, object_part}
use Rattle.liquid_core.proofs.LoopFrames.{part_length, part_index0, part_index, part_rindex0, part_rindex, part_first, part_last}
use Rattle.liquid_core.proofs.frame.LoopFrame.direct_part.Goals as goal

pub returns-in-length : goal.returns-in-length
returns-in-length c local =
    let t = c.args.self.now in
    ap (λ (z : ℤ). Some (number z)) (let fits : to_z w64 t.count ≡ pos t.count = search rules in fits) ∙ sym (ap (object_part (frame_object t local)) c.in-length.is ∙ part_length t.at t.count local t.kind)

pub returns-in-index0 : goal.returns-in-index0
returns-in-index0 c local =
    let t = c.args.self.now in
    ap (λ (z : ℤ). Some (number z)) (let fits : to_z w64 t.at ≡ pos t.at = search rules in fits) ∙ sym (ap (object_part (frame_object t local)) c.in-index0.is ∙ part_index0 t.at t.count local t.kind)

pub returns-in-index : goal.returns-in-index
returns-in-index c local =
    let t = c.args.self.now in
    ap (λ (z : ℤ). Some (number z)) (let fits : to_z w64 (t.at + 1) ≡ pos (t.at + 1) = search rules in fits) ∙ sym (ap (object_part (frame_object t local)) c.in-index.is ∙ part_index t.at t.count local t.kind)

pub returns-in-rindex0 : goal.returns-in-rindex0
returns-in-rindex0 c local =
    let t = c.args.self.now in
    ap (λ (z : ℤ). Some (number z)) (let fits : to_z w64 (t.count - t.at - 1) ≡ pos (t.count - t.at - 1) = search rules in fits) ∙ sym (ap (object_part (frame_object t local)) c.in-rindex0.is ∙ part_rindex0 t.at t.count local t.kind)

pub returns-in-rindex : goal.returns-in-rindex
returns-in-rindex c local =
    let t = c.args.self.now in
    ap (λ (z : ℤ). Some (number z)) (let fits : to_z w64 (t.count - t.at) ≡ pos (t.count - t.at) = search rules in fits) ∙ sym (ap (object_part (frame_object t local)) c.in-rindex.is ∙ part_rindex t.at t.count local t.kind)

pub returns-in-first : goal.returns-in-first
returns-in-first c local =
    let t = c.args.self.now in
    sym (ap (object_part (frame_object t local)) c.in-first.is ∙ part_first t.at t.count local t.kind)

pub returns-in-last : goal.returns-in-last
returns-in-last c local =
    let t = c.args.self.now in
    sym (ap (object_part (frame_object t local)) c.in-last.is ∙ part_last t.at t.count local t.kind)

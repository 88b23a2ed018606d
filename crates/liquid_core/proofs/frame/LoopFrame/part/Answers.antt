use Rattle.std.proofs.Common.{rules, ◌≡◌, ℤ, pos, codes, Some, refl, sym, ap, ◌∙◌, ◌+◌, ◌-◌}
use mir.Val.{to_z}
use mir.Syntax.{w64}
use Rattle.liquid_model.specs.Data.{number}
use Rattle.liquid_core.specs.Environment.{local_of}
use Rattle.liquid_core.specs.Resolved.{scopes_view}
use Rattle.liquid_core.specs.LoopFrames.{frame_object, object_part}
use Rattle.liquid_core.proofs.LoopFrames.{apart, part_length, part_index0, part_index, part_rindex0, part_rindex, part_first, part_last}
use Rattle.liquid_core.proofs.frame.LoopFrame.part.Goals as goal

-- src/resolved.rt:98:5
pub returns-in_default-name-3-clause-value : goal.returns-in_default-name-3-clause-value
returns-in_default-name-3-clause-value c =
    let d = c.in_default in
    let n = c.in_default-name-3 in
    rw (c.in-TableRow.is, apart c.args.name.now (codes "col") n.not-col, apart c.args.name.now (codes "col0") n.not-col0, apart c.args.name.now (codes "col_first") n.not-col_first, apart c.args.name.now (codes "col_last") n.not-col_last, apart c.args.name.now (codes "first") d.not-first, apart c.args.name.now (codes "index") d.not-index, apart c.args.name.now (codes "index0") d.not-index0, apart c.args.name.now (codes "last") d.not-last, apart c.args.name.now (codes "length") d.not-length, apart c.args.name.now (codes "rindex") d.not-rindex, apart c.args.name.now (codes "rindex0") d.not-rindex0, apart c.args.name.now (codes "size") n.not-size) refl

pub returns-in-parentloop-clause-among : goal.returns-in-parentloop-clause-among
returns-in-parentloop-clause-among c = c.parent.ensures.among c.args.enclosing.frames.now c.args.enclosing.outer.now c.find.ensures.among

pub returns-in-length-clause-value : goal.returns-in-length-clause-value
returns-in-length-clause-value c =
    let t = c.args.self.now in
    let local = local_of (scopes_view c.args.enclosing) in
    ap (λ (z : ℤ). Some (number z)) (let fits : to_z w64 t.count ≡ pos t.count = search rules in fits) ∙ sym (ap (object_part (frame_object t local)) c.in-length.is ∙ part_length t.at t.count local t.kind)

pub returns-in-index0-clause-value : goal.returns-in-index0-clause-value
returns-in-index0-clause-value c =
    let t = c.args.self.now in
    let local = local_of (scopes_view c.args.enclosing) in
    ap (λ (z : ℤ). Some (number z)) (let fits : to_z w64 t.at ≡ pos t.at = search rules in fits) ∙ sym (ap (object_part (frame_object t local)) c.in-index0.is ∙ part_index0 t.at t.count local t.kind)

pub returns-in-index-clause-value : goal.returns-in-index-clause-value
returns-in-index-clause-value c =
    let t = c.args.self.now in
    let local = local_of (scopes_view c.args.enclosing) in
    ap (λ (z : ℤ). Some (number z)) (let fits : to_z w64 (t.at + 1) ≡ pos (t.at + 1) = search rules in fits) ∙ sym (ap (object_part (frame_object t local)) c.in-index.is ∙ part_index t.at t.count local t.kind)

pub returns-in-rindex0-clause-value : goal.returns-in-rindex0-clause-value
returns-in-rindex0-clause-value c =
    let t = c.args.self.now in
    let local = local_of (scopes_view c.args.enclosing) in
    ap (λ (z : ℤ). Some (number z)) (let fits : to_z w64 (t.count - t.at - 1) ≡ pos (t.count - t.at - 1) = search rules in fits) ∙ sym (ap (object_part (frame_object t local)) c.in-rindex0.is ∙ part_rindex0 t.at t.count local t.kind)

pub returns-in-rindex-clause-value : goal.returns-in-rindex-clause-value
returns-in-rindex-clause-value c =
    let t = c.args.self.now in
    let local = local_of (scopes_view c.args.enclosing) in
    ap (λ (z : ℤ). Some (number z)) (let fits : to_z w64 (t.count - t.at) ≡ pos (t.count - t.at) = search rules in fits) ∙ sym (ap (object_part (frame_object t local)) c.in-rindex.is ∙ part_rindex t.at t.count local t.kind)

pub returns-in-first-clause-value : goal.returns-in-first-clause-value
returns-in-first-clause-value c =
    let t = c.args.self.now in
    let local = local_of (scopes_view c.args.enclosing) in
    sym (ap (object_part (frame_object t local)) c.in-first.is ∙ part_first t.at t.count local t.kind)

pub returns-in-last-clause-value : goal.returns-in-last-clause-value
returns-in-last-clause-value c =
    let t = c.args.self.now in
    let local = local_of (scopes_view c.args.enclosing) in
    sym (ap (object_part (frame_object t local)) c.in-last.is ∙ part_last t.at t.count local t.kind)

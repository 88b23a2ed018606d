use Rattle.std.proofs.Common.{sym, Some, None}
use Rattle.liquid_core.specs.LoopFrames.{frame_item, frame_map, frame_object, loop_name}
use Rattle.liquid_core.proofs.LoopFrames.{the_variable, the_object, neither}
use Rattle.liquid_core.proofs.DirectValues.{directly_as}
use Rattle.liquid_core.proofs.frame.LoopFrame.direct_value.Goals as goal

pub returns-then-eq : goal.returns-then-eq
returns-then-eq c local =
    let t = c.args.self.now in
    directly_as c.direct_item.result (Some (frame_item t)) (frame_map t local c.args.name.now) None (sym (the_variable (loop_name t.kind) t.name.now c.args.name.now (frame_object t local) (frame_item t) (sym c.if-eq.ensures))) c.direct_item.ensures

pub returns-then-eq-2 : goal.returns-then-eq-2
returns-then-eq-2 c local =
    let t = c.args.self.now in
    (local, sym (the_object (loop_name t.kind) t.name.now c.args.name.now (frame_object t local) (frame_item t) (sym c.if-eq.ensures) (rw (sym c.name.ensures) (sym c.if-eq-2.ensures))))

pub returns-else-eq-2 : goal.returns-else-eq-2
returns-else-eq-2 c local =
    let t = c.args.self.now in
    sym (neither (loop_name t.kind) t.name.now c.args.name.now (frame_object t local) (frame_item t) (sym c.if-eq.ensures) (rw (sym c.name.ensures) (sym c.if-eq-2.ensures)))

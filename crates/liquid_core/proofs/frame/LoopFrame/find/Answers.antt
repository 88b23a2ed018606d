use Rattle.std.proofs.Common.{Some, ap, sym, ◌∙◌}
use Rattle.liquid_core.specs.Environment.{local_of}
use Rattle.liquid_core.specs.Resolved.{scopes_view}
use Rattle.liquid_core.specs.LoopFrames.{frame_item, frame_object, loop_name}
use Rattle.liquid_core.proofs.LoopFrames.{the_variable, the_object, neither}
use Rattle.liquid_core.proofs.frame.LoopFrame.find.Goals as goal

pub returns-then-eq-clause-value : goal.returns-then-eq-clause-value
returns-then-eq-clause-value c =
    let t = c.args.self.now in
    ap Some c.item.ensures.value ∙ sym (the_variable (loop_name t.kind) t.name.now c.args.name.now (frame_object t (local_of (scopes_view c.args.enclosing))) (frame_item t) (sym c.if-eq.ensures))

pub returns-then-eq-2-clause-value : goal.returns-then-eq-2-clause-value
returns-then-eq-2-clause-value c =
    let t = c.args.self.now in
    sym (the_object (loop_name t.kind) t.name.now c.args.name.now (frame_object t (local_of (scopes_view c.args.enclosing))) (frame_item t) (sym c.if-eq.ensures) (rw (sym c.name.ensures) (sym c.if-eq-2.ensures)))

pub returns-else-eq-2-clause-value : goal.returns-else-eq-2-clause-value
returns-else-eq-2-clause-value c =
    let t = c.args.self.now in
    sym (neither (loop_name t.kind) t.name.now c.args.name.now (frame_object t (local_of (scopes_view c.args.enclosing))) (frame_item t) (sym c.if-eq.ensures) (rw (sym c.name.ensures) (sym c.if-eq-2.ensures)))

use Rattle.std.proofs.Common.{arith, ◌+◌, ◌∙◌, ap, drop, Ok}
use Rattle.std.proofs.lemmas.Result.{err_from_is_err_and}
use Rattle.liquid_model.specs.View.{view}
use Rattle.liquid_core.specs.States.{environment_of}
use Rattle.liquid_engine.proofs.CaseChoices.{left_itself, left_next, left_none, arm_ordered, arm_passed, arm_taken, arm_refused, arms_over}
use Rattle.liquid_engine.proofs.choice.arm_range.Goals as goal

pub loop-arm-init : goal.loop-arm-init
loop-arm-init c = record { ordered = omega arith; left = λ names meant h. h }

pub returns-in_err-is_among-clause-chosen : goal.returns-in_err-is_among-clause-chosen
returns-in_err-is_among-clause-chosen c names meant h =
    let e = environment_of c.args.state.now in
    let d = view c.args.wanted.now in
    let p = err_from_is_err_and c.from_residual.result c.from_residual.ensures.1 in
    let here = left_next c.args.nodes.now e names meant d c.args.arms.now c.loop-arm.arm-index c.arm-item.result c.loop-arm.from c.args.last c.loop-arm-test.true c.arm-item.is (c.loop-arm.invariant.left names meant h) in
    rw (p.1, p.2) (arm_refused c.args.nodes.now e names meant d c.arm-item.result (drop (c.loop-arm.arm-index + 1) c.args.arms.now) c.loop-arm.from c.args.last here c.in_err-is_among.field-0.0 (rw c.deref.ensures.value at c.in_err-is_among.ensures))

pub returns-then-branch-clause-inside : goal.returns-then-branch-clause-inside
returns-then-branch-clause-inside c =
    let e = environment_of c.args.state.now in
    let d = view c.args.wanted.now in
    let (ws, o, stands) = c.requires in
    let all = left_itself c.args.nodes.now e d c.args.arms.now c.args.first c.args.last ws o stands in
    let here = left_next c.args.nodes.now e _ _ d c.args.arms.now c.loop-arm.arm-index c.arm-item.result c.loop-arm.from c.args.last c.loop-arm-test.true c.arm-item.is (c.loop-arm.invariant.left _ _ all) in
    let order = arm_ordered c.args.nodes.now e _ _ d c.arm-item.result (drop (c.loop-arm.arm-index + 1) c.args.arms.now) c.loop-arm.from c.args.last here in
    (c.loop-arm.invariant.ordered, order.1)

pub returns-then-branch-clause-chosen : goal.returns-then-branch-clause-chosen
returns-then-branch-clause-chosen c names meant h =
    let e = environment_of c.args.state.now in
    let d = view c.args.wanted.now in
    let here = left_next c.args.nodes.now e names meant d c.args.arms.now c.loop-arm.arm-index c.arm-item.result c.loop-arm.from c.args.last c.loop-arm-test.true c.arm-item.is (c.loop-arm.invariant.left names meant h) in
    arm_taken c.args.nodes.now e names meant d c.arm-item.result (drop (c.loop-arm.arm-index + 1) c.args.arms.now) c.loop-arm.from c.args.last here ((rw c.deref.ensures.value at c.in_ok-is_among.ensures) ∙ ap Ok c.if-branch.true)

pub loop-arm-preserved : goal.loop-arm-preserved
loop-arm-preserved c =
    let e = environment_of c.args.state.now in
    let d = view c.args.wanted.now in
    let (ws, o, stands) = c.requires in
    let all = left_itself c.args.nodes.now e d c.args.arms.now c.args.first c.args.last ws o stands in
    let here = left_next c.args.nodes.now e _ _ d c.args.arms.now c.loop-arm.arm-index c.arm-item.result c.loop-arm.from c.args.last c.loop-arm-test.true c.arm-item.is (c.loop-arm.invariant.left _ _ all) in
    let order = arm_ordered c.args.nodes.now e _ _ d c.arm-item.result (drop (c.loop-arm.arm-index + 1) c.args.arms.now) c.loop-arm.from c.args.last here in
    record {
      ordered = omega (arith, c.loop-arm.invariant.ordered, order.0);
      left = λ names meant h.
          let there = left_next c.args.nodes.now e names meant d c.args.arms.now c.loop-arm.arm-index c.arm-item.result c.loop-arm.from c.args.last c.loop-arm-test.true c.arm-item.is (c.loop-arm.invariant.left names meant h) in
          arm_passed c.args.nodes.now e names meant d c.arm-item.result (drop (c.loop-arm.arm-index + 1) c.args.arms.now) c.loop-arm.from c.args.last there ((rw c.deref.ensures.value at c.in_ok-is_among.ensures) ∙ ap Ok c.if-branch.false);
    }

pub returns-clause-chosen : goal.returns-clause-chosen
returns-clause-chosen c names meant h =
    let e = environment_of c.args.state.now in
    let d = view c.args.wanted.now in
    arms_over c.args.nodes.now e names meant d c.loop-arm.from c.args.last (left_none c.args.nodes.now e names meant d c.args.arms.now c.loop-arm.arm-index c.loop-arm.from c.args.last c.loop-arm-test.false (c.loop-arm.invariant.left names meant h))

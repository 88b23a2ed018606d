use Rattle.std.proofs.Common.{◌+◌, ◌∙◌, ap, sym, is_some, string_bytes}
use Rattle.std.specs.Prelude.{◌%◌}
use Rattle.std.proofs.Math.Nat.{mod-add-mod}
use Rattle.std.proofs.lemmas.Result.{err_from_is_err_and}
use Rattle.liquid_core.specs.States.{layers_of, with_cycle}
use Rattle.liquid_core.proofs.States.{cycle_set}
use Rattle.liquid_engine.proofs.Cycles.{index_found, index_none, cycles_same}
use Rattle.liquid_engine.proofs.cycle.move_on.Goals as goal

pub returns-in-Some-clause-index : goal.returns-in-Some-clause-index
returns-in-Some-clause-index c = index_found c.args.state.now c.args.group.now c.in-Some.index.now c.in-Some.ensures.value

pub returns-in-Some-clause-moved : goal.returns-in-Some-clause-moved
returns-in-Some-clause-moved c =
    let w = (c.in-Some.index.now % c.args.count + 1) % c.args.count in
    let written = (c.get_mut.follows.holds w).3 (ap is_some (sym c.in-Some.ensures.value)) in
    cycle_set c.args.state.now (c.get_mut.follows.lender w) c.args.group.now w written
    ∙ ap (λ n. with_cycle c.args.group.now n (layers_of c.args.state.now))
    (mod-add-mod c.in-Some.index.now c.args.count 1 ∙ ap (λ i. (i + 1) % c.args.count) (index_found c.args.state.now c.args.group.now c.in-Some.index.now c.in-Some.ensures.value))

pub returns-in_ok-insert-in-None-clause-index : goal.returns-in_ok-insert-in-None-clause-index
returns-in_ok-insert-in-None-clause-index c = index_none c.args.state.now c.args.group.now c.in-None.ensures.value

pub returns-in_ok-insert-in-None-clause-moved : goal.returns-in_ok-insert-in-None-clause-moved
returns-in_ok-insert-in-None-clause-moved c =
    let name = string_bytes c.in_ok-name-in-None.name in
    cycle_set c.args.state.now c.insert.new.self name (1 % c.args.count) (rw c.get_mut.follows.holds-at-none at c.in_ok-insert-in-None.ensures.updates)
    ∙ ap (λ group. with_cycle group (1 % c.args.count) (layers_of c.args.state.now)) c.in_ok-name-in-None.ensures.ok
    ∙ ap (λ i. with_cycle c.args.group.now ((i + 1) % c.args.count) (layers_of c.args.state.now)) (index_none c.args.state.now c.args.group.now c.in-None.ensures.value)

pub returns-in_err-insert-in-None-clause-unchanged : goal.returns-in_err-insert-in-None-clause-unchanged
returns-in_err-insert-in-None-clause-unchanged c =
    let p = err_from_is_err_and c.from_residual-in_err-insert-in-None.result c.from_residual-in_err-insert-in-None.ensures.1 in
    rw p.1 (cycles_same c.args.state.now c.insert.new.self (rw c.get_mut.follows.holds-at-none at c.in_err-insert-in-None.ensures.err))

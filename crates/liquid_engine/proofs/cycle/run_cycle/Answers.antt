use Rattle.std.proofs.Common.{rules, arith, ◌≡◌, ◌+◌, ◌<◌, ◌∙◌, ap, sym, length, Err, map}
use Rattle.std.specs.Prelude.{◌%◌, slice_get}
use Rattle.std.proofs.lemmas.List.{length-map}
use Rattle.std.proofs.lemmas.Result.{err_from_is_err_and}
use Rattle.liquid_model.specs.Cow.{cow_view}
use Rattle.liquid_model.specs.Data.{text_of}
use Rattle.liquid_model.specs.declared.cow.ValueCow.{ValueCow}
use Rattle.liquid_core.specs.ExpressionView.{expression_view}
use Rattle.liquid_core.specs.Expressions.{required}
use Rattle.liquid_core.specs.States.{environment_of, merged_layers}
use Rattle.liquid_engine.specs.Performs.{configuration_of, unit}
use Rattle.liquid_engine.specs.Sinks.{sink_of}
use Rattle.liquid_engine.proofs.Cycles.{cycle_met, cycle_without, none_there, one_there, seen_at, seen_past}
use Rattle.liquid_engine.proofs.Joined.{by_rule, given_met, refused_met, memory_at, write_met}
use Rattle.liquid_engine.proofs.Pieces.{writes_as}
use Rattle.liquid_meaning.specs.Effects.{cycle_index, cycled_to}
use Rattle.liquid_meaning.specs.Runs.{write}
use Rattle.liquid_meaning.proofs.Rules.{cycle_rule}
use Rattle.liquid_engine.proofs.Reserves.{no_less}
use Rattle.liquid_engine.proofs.cycle.run_cycle.Goals as goal

pub returns-then-is_empty-clause-performs : goal.returns-then-is_empty-clause-performs
returns-then-is_empty-clause-performs g c =
    let none : length (map expression_view c.args.values.now) ≡ 0 = length-map c.args.values.now expression_view ∙ (search rules) in
    by_rule (cycle_rule _ _ c.args.group.now (map expression_view c.args.values.now)) (cycle_without c.args.group.now (map expression_view c.args.values.now) c.out_of_bounds.result _ none c.out_of_bounds.ensures)

pub returns-in_err-index-clause-performs : goal.returns-in_err-index-clause-performs
returns-in_err-index-clause-performs g c =
    let p = err_from_is_err_and c.from_residual.result c.from_residual.ensures.1 in
    rw (p.1, p.2) (memory_at _ c.in_err-index.ensures.moved)

pub returns-in_err-value-in-Some-clause-performs : goal.returns-in_err-value-in-Some-clause-performs
returns-in_err-value-in-Some-clause-performs g c =
    let sink = sink_of g.W.CountedWrite.contents g.W.CountedWrite.failure_count in
    let place = configuration_of g.W.CountedWrite.contents g.W.CountedWrite.failure_count in
    let xs = c.args.values.now in
    let values = map expression_view xs in
    let count : length values ≡ length xs = length-map xs expression_view in
    let one : 0 < length xs = search rules in
    let some : 0 < length values = omega (arith, count, one) in
    let e = environment_of c.args.state.now in
    let i = c.in_ok-index.index in
    let moved : cycled_to c.args.group.now ((cycle_index c.args.group.now e + 1) % length values) e ≡ environment_of c.move_on.new.state =
    ap (λ n. cycled_to c.args.group.now ((cycle_index c.args.group.now e + 1) % n) e) count ∙ sym (ap merged_layers c.in_ok-index.ensures.moved) in
    let there = seen_at expression_view xs i c.in-Some.value.now c.in-Some.ensures.lookup.3.0 c.in-Some.ensures.lookup.1 in
    let p = err_from_is_err_and c.from_residual-in_err-value-in-Some.result c.from_residual-in_err-value-in-Some.ensures.1 in
    rw (p.1, p.2) (by_rule (cycle_rule _ _ c.args.group.now values) (cycle_met c.args.group.now values (Err c.in_err-value-in-Some.field-0.0) i (sink c.args.out.now) (sink c.args.out.now) e (environment_of c.move_on.new.state) (environment_of c.move_on.new.state) some c.in_ok-index.ensures.index moved
    (one_there (slice_get values i) (expression_view c.in-Some.value.now) (Err c.in_err-value-in-Some.field-0.0) (place c.args.out.now c.move_on.new.state) (place c.args.out.now c.move_on.new.state) there
    (refused_met {V = ValueCow} cow_view unit c.in_err-value-in-Some.field-0.0 (required (expression_view c.in-Some.value.now)) (λ d. write (text_of d)) (place c.args.out.now c.move_on.new.state) c.in_err-value-in-Some.ensures.value))))

pub returns-in_ok-value-in-Some-clause-performs : goal.returns-in_ok-value-in-Some-clause-performs
returns-in_ok-value-in-Some-clause-performs g c =
    let sink = sink_of g.W.CountedWrite.contents g.W.CountedWrite.failure_count in
    let place = configuration_of g.W.CountedWrite.contents g.W.CountedWrite.failure_count in
    let xs = c.args.values.now in
    let values = map expression_view xs in
    let count : length values ≡ length xs = length-map xs expression_view in
    let one : 0 < length xs = search rules in
    let some : 0 < length values = omega (arith, count, one) in
    let e = environment_of c.args.state.now in
    let i = c.in_ok-index.index in
    let moved : cycled_to c.args.group.now ((cycle_index c.args.group.now e + 1) % length values) e ≡ environment_of c.move_on.new.state =
    ap (λ n. cycled_to c.args.group.now ((cycle_index c.args.group.now e + 1) % n) e) count ∙ sym (ap merged_layers c.in_ok-index.ensures.moved) in
    let there = seen_at expression_view xs i c.in-Some.value.now c.in-Some.ensures.lookup.3.0 c.in-Some.ensures.lookup.1 in
    let d = cow_view c.in_ok-value-in-Some.value in
    by_rule (cycle_rule _ _ c.args.group.now values) (cycle_met c.args.group.now values c.push_value.result i (sink c.args.out.now) (sink c.push_value.new.out) e (environment_of c.move_on.new.state) (environment_of c.move_on.new.state) some c.in_ok-index.ensures.index moved
    (one_there (slice_get values i) (expression_view c.in-Some.value.now) c.push_value.result (place c.args.out.now c.move_on.new.state) (place c.push_value.new.out c.move_on.new.state) there
    (given_met {V = ValueCow} cow_view unit c.in_ok-value-in-Some.value c.push_value.result (required (expression_view c.in-Some.value.now)) (λ x. write (text_of x)) (place c.args.out.now c.move_on.new.state) (place c.push_value.new.out c.move_on.new.state)
    c.in_ok-value-in-Some.ensures.value (write_met c.push_value.result (text_of d) _ _ (environment_of c.move_on.new.state) (writes_as c.push_value.result _ (text_of d) _ _ (ap text_of c.as_value.ensures) c.push_value.ensures.writes)))))

pub returns-in-None-clause-performs : goal.returns-in-None-clause-performs
returns-in-None-clause-performs g c =
    let sink = sink_of g.W.CountedWrite.contents g.W.CountedWrite.failure_count in
    let place = configuration_of g.W.CountedWrite.contents g.W.CountedWrite.failure_count in
    let xs = c.args.values.now in
    let values = map expression_view xs in
    let count : length values ≡ length xs = length-map xs expression_view in
    let one : 0 < length xs = search rules in
    let some : 0 < length values = omega (arith, count, one) in
    let e = environment_of c.args.state.now in
    let i = c.in_ok-index.index in
    let moved : cycled_to c.args.group.now ((cycle_index c.args.group.now e + 1) % length values) e ≡ environment_of c.move_on.new.state =
    ap (λ n. cycled_to c.args.group.now ((cycle_index c.args.group.now e + 1) % n) e) count ∙ sym (ap merged_layers c.in_ok-index.ensures.moved) in
    let past = seen_past expression_view xs i c.in-None.ensures.lookup.3 in
    by_rule (cycle_rule _ _ c.args.group.now values) (cycle_met c.args.group.now values (Err c.out_of_bounds-in-None.result) i (sink c.args.out.now) (sink c.args.out.now) e (environment_of c.move_on.new.state) (environment_of c.move_on.new.state) some c.in_ok-index.ensures.index moved
    (none_there (slice_get values i) c.out_of_bounds-in-None.result (place c.args.out.now c.move_on.new.state) past c.out_of_bounds-in-None.ensures))

pub returns-then-is_empty-clause-bounded : goal.returns-then-is_empty-clause-bounded
returns-then-is_empty-clause-bounded g c = no_less

pub returns-in_err-index-clause-bounded : goal.returns-in_err-index-clause-bounded
returns-in_err-index-clause-bounded g c = no_less

pub returns-in_err-value-in-Some-clause-bounded : goal.returns-in_err-value-in-Some-clause-bounded
returns-in_err-value-in-Some-clause-bounded g c = no_less

pub returns-in_ok-value-in-Some-clause-bounded : goal.returns-in_ok-value-in-Some-clause-bounded
returns-in_ok-value-in-Some-clause-bounded g c = c.push_value.ensures.bounded

pub returns-in-None-clause-bounded : goal.returns-in-None-clause-bounded
returns-in-None-clause-bounded g c = no_less

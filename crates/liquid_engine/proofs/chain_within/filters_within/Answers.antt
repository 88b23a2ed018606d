use Rattle.std.proofs.Common.{◌∙◌, Err, map, refl, rules}
use Rattle.std.proofs.lemmas.Result.{err_from_is_err_and}
use Rattle.liquid_model.specs.Cow.{cow_view}
use Rattle.liquid_model.specs.View.{view}
use Rattle.liquid_model.specs.declared.cow.ValueCow.{ValueCow}
use Rattle.liquid_core.specs.States.{environment_of}
use Rattle.liquid_evaluation.specs.ChainView.{chain_filter_view}
use Rattle.liquid_evaluation.specs.Evaluation.{answers_in, answers_with, through}
use Rattle.liquid_evaluation.proofs.Calls.{filters_more, filters_stop, filters_end}
use Rattle.liquid_meaning.specs.Runs.{evaluate}
use Rattle.liquid_engine.specs.Performs.{configuration_of}
use Rattle.liquid_engine.proofs.ChainBytes.{taken_all, taken_more, taken_none}
use Rattle.liquid_engine.proofs.Joined.{no_value_met, value_met}
use Rattle.liquid_engine.proofs.Turns.{may_not_meet, meets_from}
use Rattle.liquid_engine.proofs.Reserves.{less_then, no_less}
use Rattle.liquid_engine.proofs.chain_within.filters_within.Goals as goal

pub loop-stored-init : goal.loop-stored-init
loop-stored-init g c =
    let e = environment_of c.args.state.now in
    let answers = answers_with (g.H.NamedFilters.named c.args.host.now) in
    record {
      value = refl;
      same_sink = refl;
      taken = taken_none answers chain_filter_view e c.args.filters.now (cow_view c.args.value) _;
      same_writer = refl;
      bounded = no_less;
      limited = refl;
    }

pub returns-in_err-room_ahead-clause-value : goal.returns-in_err-room_ahead-clause-value
returns-in_err-room_ahead-clause-value g c =
    let p = err_from_is_err_and c.from_residual.result c.from_residual.ensures.1 in
    let place = configuration_of g.W.CountedWrite.contents g.W.CountedWrite.failure_count in
    let e = environment_of c.args.state.now in
    let end = through (answers_with (g.H.NamedFilters.named c.args.host.now)) (map chain_filter_view c.args.filters.now) (cow_view c.args.value) in
    let fault = c.in_err-room_ahead.field-0.0 in
    rw (p.1, p.2) (meets_from {V = ValueCow} cow_view (Err fault) (evaluate end) _ _ e (place c.room_ahead.new.out c.args.state.now) c.loop-stored.invariant.same_sink
    (may_not_meet {V = ValueCow} cow_view fault (evaluate end) (place c.loop-stored.out c.args.state.now) (place c.room_ahead.new.out c.args.state.now) c.in_err-room_ahead.ensures.refused))

pub returns-in_err-next-clause-value : goal.returns-in_err-next-clause-value
returns-in_err-next-clause-value g c =
    let p = err_from_is_err_and c.from_residual-in_err-next.result c.from_residual-in_err-next.ensures.1 in
    let place = configuration_of g.W.CountedWrite.contents g.W.CountedWrite.failure_count in
    let e = environment_of c.args.state.now in
    let answers = answers_with (g.H.NamedFilters.named c.args.host.now) in
    let end = through answers (map chain_filter_view c.args.filters.now) (cow_view c.args.value) in
    let fault = c.in_err-next.field-0.0 in
    rw (p.1, p.2) (meets_from {V = ValueCow} cow_view (Err fault) (evaluate end) _ _ e (place c.room_ahead.new.out c.args.state.now) (c.in_ok-room_ahead.ensures.goes_on ∙ c.loop-stored.invariant.same_sink)
    (no_value_met {V = ValueCow} cow_view fault end (place c.room_ahead.new.out c.args.state.now)
    (filters_stop (answers_in e.missing answers) chain_filter_view (end e) e c.args.filters.now c.loop-stored.stored-index c.stored-item.result (cow_view c.loop-stored.value)
    fault.kind c.loop-stored-test.true c.stored-item.is (rw c.as_value-input.ensures at c.in_err-next.ensures.value) c.loop-stored.invariant.value)))

pub returns-in_err-take_value-clause-value : goal.returns-in_err-take_value-clause-value
returns-in_err-take_value-clause-value g c =
    let p = err_from_is_err_and c.from_residual-in_err-take_value.result c.from_residual-in_err-take_value.ensures.1 in
    let place = configuration_of g.W.CountedWrite.contents g.W.CountedWrite.failure_count in
    let e = environment_of c.args.state.now in
    let end = through (answers_with (g.H.NamedFilters.named c.args.host.now)) (map chain_filter_view c.args.filters.now) (cow_view c.args.value) in
    let fault = c.in_err-take_value.field-0.0 in
    rw (p.1, p.2) (meets_from {V = ValueCow} cow_view (Err fault) (evaluate end) _ _ e (place c.take_value.new.self c.args.state.now) (c.in_ok-room_ahead.ensures.goes_on ∙ c.loop-stored.invariant.same_sink)
    (may_not_meet {V = ValueCow} cow_view fault (evaluate end) (place c.room_ahead.new.out c.args.state.now) (place c.take_value.new.self c.args.state.now) c.in_err-take_value.ensures.refused))

pub loop-stored-preserved : goal.loop-stored-preserved
loop-stored-preserved g c =
    let e = environment_of c.args.state.now in
    let answers = answers_with (g.H.NamedFilters.named c.args.host.now) in
    let end = through answers (map chain_filter_view c.args.filters.now) (cow_view c.args.value) in
    let d = cow_view c.loop-stored.value in
    let a = view c.in_ok-next.next in
    let is = rw c.as_value-input.ensures at c.in_ok-next.ensures.value in
    record {
      value = filters_more (answers_in e.missing answers) chain_filter_view (end e) e c.args.filters.now c.loop-stored.stored-index c.stored-item.result d a
          c.loop-stored-test.true c.stored-item.is is c.loop-stored.invariant.value;
      same_sink = c.in_ok-take_value.ensures.goes_on ∙ (c.in_ok-room_ahead.ensures.goes_on ∙ c.loop-stored.invariant.same_sink);
      taken = taken_more _ (answers_in e.missing answers) chain_filter_view e c.args.filters.now c.loop-stored.stored-index c.stored-item.result d a _ _ _ _
          c.loop-stored-test.true c.stored-item.is is c.in_ok-room_ahead.ensures.kept c.in_ok-take_value.ensures.takes c.loop-stored.invariant.taken;
      same_writer = search rules;
      bounded = less_then c.take_value.ensures.bounded (less_then c.room_ahead.ensures.bounded c.loop-stored.invariant.bounded);
      limited = search rules;
    }

pub returns-clause-value : goal.returns-clause-value
returns-clause-value g c =
    let place = configuration_of g.W.CountedWrite.contents g.W.CountedWrite.failure_count in
    let e = environment_of c.args.state.now in
    let answers = answers_with (g.H.NamedFilters.named c.args.host.now) in
    let end = through answers (map chain_filter_view c.args.filters.now) (cow_view c.args.value) in
    meets_from {V = ValueCow} cow_view _ (evaluate end) _ _ e (place c.loop-stored.out c.args.state.now) c.loop-stored.invariant.same_sink
    (value_met {V = ValueCow} cow_view c.loop-stored.value end (place c.loop-stored.out c.args.state.now)
    (filters_end (answers_in e.missing answers) chain_filter_view (end e) e c.args.filters.now c.loop-stored.stored-index
    (cow_view c.loop-stored.value) c.loop-stored-test.false c.loop-stored.invariant.value))

pub returns-clause-takes : goal.returns-clause-takes
returns-clause-takes g c =
    let e = environment_of c.args.state.now in
    let answers = answers_in e.missing (answers_with (g.H.NamedFilters.named c.args.host.now)) in
    taken_all _ answers chain_filter_view e c.args.filters.now c.loop-stored.stored-index (cow_view c.loop-stored.value) _ _ c.loop-stored-test.false c.loop-stored.invariant.taken

pub returns-in_err-room_ahead-clause-bounded : goal.returns-in_err-room_ahead-clause-bounded
returns-in_err-room_ahead-clause-bounded g c = less_then c.room_ahead.ensures.bounded c.loop-stored.invariant.bounded

pub returns-in_err-next-clause-bounded : goal.returns-in_err-next-clause-bounded
returns-in_err-next-clause-bounded g c = less_then c.room_ahead.ensures.bounded c.loop-stored.invariant.bounded

pub returns-in_err-take_value-clause-bounded : goal.returns-in_err-take_value-clause-bounded
returns-in_err-take_value-clause-bounded g c = less_then c.take_value.ensures.bounded (less_then c.room_ahead.ensures.bounded c.loop-stored.invariant.bounded)

pub returns-clause-bounded : goal.returns-clause-bounded
returns-clause-bounded g c = c.loop-stored.invariant.bounded

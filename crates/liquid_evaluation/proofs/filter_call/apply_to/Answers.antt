use Rattle.std.proofs.Common.{Bool, Ok, length, ap, arith}
use Rattle.std.specs.List.{list_all}
use Rattle.std.proofs.lemmas.Result.{err_from_is_err_and}
use Rattle.liquid_model.specs.Cow.{cow_view}
use Rattle.liquid_core.specs.States.{environment_of}
use Rattle.liquid_model.specs.View.{view}
use Rattle.liquid_model.specs.declared.cow.ValueCow.{ValueCow}
use Rattle.liquid_model.specs.declared.value.Value.{Value}
use Rattle.liquid_evaluation.specs.Calls.{Call, call_of}
use Rattle.liquid_evaluation.specs.declared.filter_call.FilterCall.{FilterCall}
use Rattle.liquid_evaluation.proofs.Calls.{answers_if, if_answered, faulted_if, all_within, calls_more, calls_stop, calls_end}
use Rattle.liquid_evaluation.proofs.filter_call.apply_to.Goals as goal

pub returns-in_err-apply_one-clause-value : goal.returns-in_err-apply_one-clause-value
returns-in_err-apply_one-clause-value g c =
    let p = err_from_is_err_and c.from_residual.result c.from_residual.ensures.1 in
    let f : FilterCall g.row.F.Denot → Call = λ call. call_of (g.F.Filter.answer call.filter) call.args.now call.required in
    let within : FilterCall g.row.F.Denot → Bool = λ call. g.F.Filter.within call.filter in
    rw p.1 (faulted_if {V = Value} {W = ValueCow} view cow_view (within c.call-item.result) (list_all within c.args.calls.now) c.in_err-apply_one.field-0.0 p.0 _ _
    (all_within within c.args.calls.now c.loop-call.call-index c.call-item.result c.loop-call-test.true c.call-item.is)
    (calls_stop f _ (environment_of c.args.state.now) c.args.calls.now c.loop-call.call-index c.call-item.result (cow_view c.loop-call.value) c.in_err-apply_one.field-0.0.kind
    c.loop-call-test.true c.call-item.is c.loop-call.invariant.0)
    (ap (λ fault. fault.kind) p.2) (rw c.as_value.ensures at c.in_err-apply_one.ensures))

pub loop-call-preserved : goal.loop-call-preserved
loop-call-preserved g c =
    let f : FilterCall g.row.F.Denot → Call = λ call. call_of (g.F.Filter.answer call.filter) call.args.now call.required in (
      calls_more f _ (environment_of c.args.state.now) c.args.calls.now c.loop-call.call-index c.call-item.result (cow_view c.loop-call.value) (view c.in_ok-apply_one.field-0)
          c.loop-call-test.true c.call-item.is
          (if_answered (g.F.Filter.within c.call-item.result.filter) view c.in_ok-apply_one.field-0 _ (rw c.as_value.ensures at c.in_ok-apply_one.ensures))
          c.loop-call.invariant.0,
      λ none. absurd (omega (arith, ap length none, c.loop-call-test.true)),
    )

pub returns-clause-value : goal.returns-clause-value
returns-clause-value g c =
    let f : FilterCall g.row.F.Denot → Call = λ call. call_of (g.F.Filter.answer call.filter) call.args.now call.required in
    answers_if {X = ValueCow} (list_all (λ call. g.F.Filter.within call.filter) c.args.calls.now) cow_view (Ok c.loop-call.value) _
    (calls_end f _ (environment_of c.args.state.now) c.args.calls.now c.loop-call.call-index (cow_view c.loop-call.value) c.loop-call-test.false c.loop-call.invariant.0)

pub returns-in_err-apply_one-clause-without_calls : goal.returns-in_err-apply_one-clause-without_calls
returns-in_err-apply_one-clause-without_calls g c = λ none. absurd (omega (arith, ap length none, c.loop-call-test.true))

pub returns-clause-without_calls : goal.returns-clause-without_calls
returns-clause-without_calls g c = λ none. ap Ok (c.loop-call.invariant.1 none)

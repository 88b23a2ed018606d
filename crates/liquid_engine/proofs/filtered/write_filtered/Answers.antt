use Rattle.std.proofs.Common.{Ok, Err, ap, map, string_bytes, subst}
use Rattle.std.proofs.lemmas.Result.{err_from_is_err_and}
use Rattle.liquid_model.specs.Cow.{cow_view}
use Rattle.liquid_model.specs.Data.{text, text_of}
use Rattle.liquid_model.specs.declared.cow.ValueCow.{ValueCow}
use Rattle.liquid_model.proofs.Views.{view-Text}
use Rattle.liquid_core.specs.States.{environment_of}
use Rattle.liquid_evaluation.specs.ChainView.{chain_filter_view}
use Rattle.liquid_evaluation.specs.Evaluation.{answers_with, through}
use Rattle.liquid_meaning.specs.Runs.{evaluate, write}
use Rattle.liquid_engine.specs.Performs.{Meets, unit, configuration_of}
use Rattle.liquid_engine.proofs.Joined.{bind_faulted, bind_met, write_met}
use Rattle.liquid_engine.proofs.Pieces.{writes_as}
use Rattle.liquid_engine.proofs.Reserves.{less_then}
use Rattle.liquid_engine.proofs.filtered.write_filtered.Goals as goal

pub returns-in_err-answer-clause-performs : goal.returns-in_err-answer-clause-performs
returns-in_err-answer-clause-performs g c =
    let p = err_from_is_err_and c.from_residual.result c.from_residual.ensures.1 in
    let place = configuration_of g.W.CountedWrite.contents g.W.CountedWrite.failure_count in
    let end = through (answers_with (g.H.NamedFilters.named c.args.context.now.host.now)) (map chain_filter_view c.args.filters.now) in
    let t = text (string_bytes c.args.text) in
    let fault = c.in_err-answer.field-0.0 in
    rw (p.1, p.2) (bind_faulted {V = ValueCow} cow_view unit fault (evaluate (end t)) (λ x. write (text_of x)) (place c.args.out.now c.args.state.now) (place c.filters_within.new.out c.args.state.now)
    (subst (λ d. Meets {V = ValueCow} cow_view (Err fault) (evaluate (end d)) (place c.args.out.now c.args.state.now) (place c.filters_within.new.out c.args.state.now)) (view-Text c.args.text) c.in_err-answer.ensures.value))

pub returns-clause-performs : goal.returns-clause-performs
returns-clause-performs g c =
    let place = configuration_of g.W.CountedWrite.contents g.W.CountedWrite.failure_count in
    let end = through (answers_with (g.H.NamedFilters.named c.args.context.now.host.now)) (map chain_filter_view c.args.filters.now) in
    let t = text (string_bytes c.args.text) in
    let v = c.in_ok-answer.answer in
    bind_met {V = ValueCow} cow_view unit v c.push_value.result (evaluate (end t)) (λ x. write (text_of x)) (place c.args.out.now c.args.state.now) (place c.filters_within.new.out c.args.state.now) (place c.push_value.new.out c.args.state.now)
    (subst (λ d. Meets {V = ValueCow} cow_view (Ok v) (evaluate (end d)) (place c.args.out.now c.args.state.now) (place c.filters_within.new.out c.args.state.now)) (view-Text c.args.text) c.in_ok-answer.ensures.value)
    (write_met c.push_value.result (text_of (cow_view v)) _ _ (environment_of c.args.state.now) (writes_as c.push_value.result _ (text_of (cow_view v)) _ _ (ap text_of c.as_value.ensures) c.push_value.ensures.writes))

pub returns-in_err-answer-clause-bounded : goal.returns-in_err-answer-clause-bounded
returns-in_err-answer-clause-bounded g c = c.filters_within.ensures.bounded

pub returns-clause-bounded : goal.returns-clause-bounded
returns-clause-bounded g c = less_then c.push_value.ensures.bounded c.filters_within.ensures.bounded

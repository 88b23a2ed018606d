use Rattle.std.proofs.Common.{ap}
use Rattle.std.proofs.lemmas.Result.{err_from_is_err_and}
use Rattle.liquid_model.specs.Cow.{cow_view}
use Rattle.liquid_model.specs.Data.{text_of}
use Rattle.liquid_core.specs.States.{environment_of}
use Rattle.liquid_model.specs.declared.cow.ValueCow.{ValueCow}
use Rattle.liquid_evaluation.specs.ChainView.{chain_view}
use Rattle.liquid_evaluation.specs.Evaluation.{answers_with, chain_value}
use Rattle.liquid_meaning.specs.Runs.{evaluate, write}
use Rattle.liquid_engine.specs.Performs.{unit, configuration_of}
use Rattle.liquid_engine.proofs.Joined.{bind_faulted, bind_met, by_rule, write_met}
use Rattle.liquid_engine.proofs.Pieces.{writes_as}
use Rattle.liquid_meaning.proofs.Rules.{output_rule}
use Rattle.liquid_engine.proofs.Reserves.{less_then}
use Rattle.liquid_engine.proofs.output_and_assign.run_chain.Goals as goal

pub returns-in_err-value-clause-performs : goal.returns-in_err-value-clause-performs
returns-in_err-value-clause-performs g c =
    let p = err_from_is_err_and c.from_residual.result c.from_residual.ensures.1 in
    let place = configuration_of g.W.CountedWrite.contents g.W.CountedWrite.failure_count in
    let chain = chain_value (answers_with (g.H.NamedFilters.named c.args.context.now.host.now)) (chain_view c.args.chain.now) in
    rw (p.1, p.2) (by_rule (output_rule _ _ _) (bind_faulted {V = ValueCow} cow_view unit c.in_err-value.field-0.0 (evaluate chain) (λ x. write (text_of x)) (place c.args.out.now c.args.state.now) (place c.chain_within.new.out c.args.state.now) c.in_err-value.ensures.value))

pub returns-clause-performs : goal.returns-clause-performs
returns-clause-performs g c =
    let place = configuration_of g.W.CountedWrite.contents g.W.CountedWrite.failure_count in
    let chain = chain_value (answers_with (g.H.NamedFilters.named c.args.context.now.host.now)) (chain_view c.args.chain.now) in
    let v = c.in_ok-value.value in
    by_rule (output_rule _ _ _) (bind_met {V = ValueCow} cow_view unit v c.push_value.result (evaluate chain) (λ x. write (text_of x)) (place c.args.out.now c.args.state.now) (place c.chain_within.new.out c.args.state.now) (place c.push_value.new.out c.args.state.now)
    c.in_ok-value.ensures.value (write_met c.push_value.result (text_of (cow_view v)) _ _ (environment_of c.args.state.now) (writes_as c.push_value.result _ (text_of (cow_view v)) _ _ (ap text_of c.as_value.ensures) c.push_value.ensures.writes)))

pub returns-in_err-value-clause-bounded : goal.returns-in_err-value-clause-bounded
returns-in_err-value-clause-bounded g c = c.chain_within.ensures.bounded

pub returns-clause-bounded : goal.returns-clause-bounded
returns-clause-bounded g c = less_then c.push_value.ensures.bounded c.chain_within.ensures.bounded

use Rattle.std.proofs.Common.{Err, rules}
use Rattle.std.proofs.lemmas.Result.{err_from_is_err_and}
use Rattle.liquid_model.specs.Answer.{IsValueOrMemory}
use Rattle.liquid_model.specs.Cow.{cow_view}
use Rattle.liquid_model.specs.View.{view}
use Rattle.liquid_core.specs.States.{environment_of, layers_of, with_assigned}
use Rattle.liquid_model.specs.declared.cow.ValueCow.{ValueCow}
use Rattle.liquid_evaluation.specs.ChainView.{chain_view}
use Rattle.liquid_evaluation.specs.Evaluation.{answers_with, chain_value}
use Rattle.liquid_evaluation.specs.Names.{node_names}
use Rattle.liquid_meaning.specs.Runs.{change, evaluate}
use Rattle.liquid_meaning.specs.Effects.{assigned_to}
use Rattle.liquid_engine.specs.Performs.{unit, configuration_of}
use Rattle.liquid_engine.proofs.ChainBytes.{assigned_taken}
use Rattle.liquid_engine.proofs.Joined.{bind_faulted, bind_met, by_rule, change_met, gives_merged, memory_at}
use Rattle.liquid_engine.proofs.StateKept.{kept_assigned}
use Rattle.liquid_engine.proofs.Turns.{may_not_meet, performs_from}
use Rattle.liquid_meaning.proofs.Rules.{assign_rule}
use Rattle.liquid_engine.proofs.Reserves.{less_then}
use Rattle.liquid_engine.proofs.output_and_assign.run_assign.Goals as goal

pub returns-in_err-found-clause-performs : goal.returns-in_err-found-clause-performs
returns-in_err-found-clause-performs g c =
    let p = err_from_is_err_and c.from_residual.result c.from_residual.ensures.1 in
    let place = configuration_of g.W.CountedWrite.contents g.W.CountedWrite.failure_count in
    let chain = chain_value (answers_with (g.H.NamedFilters.named c.args.context.now.host.now)) (chain_view c.args.chain.now) in
    rw (p.1, p.2) (by_rule (assign_rule _ _ _ _) (bind_faulted {V = ValueCow} cow_view unit c.in_err-found.field-0.0 (evaluate chain) (λ x. change (assigned_to c.args.name.now x)) (place c.args.out.now c.args.state.now) (place c.chain_within.new.out c.args.state.now) c.in_err-found.ensures.value))

pub returns-in_err-take_value-clause-performs : goal.returns-in_err-take_value-clause-performs
returns-in_err-take_value-clause-performs g c =
    let p = err_from_is_err_and c.from_residual-in_err-take_value.result c.from_residual-in_err-take_value.ensures.1 in
    let place = configuration_of g.W.CountedWrite.contents g.W.CountedWrite.failure_count in
    let chain = chain_value (answers_with (g.H.NamedFilters.named c.args.context.now.host.now)) (chain_view c.args.chain.now) in
    let v = c.in_ok-found.found in
    let e = c.in_err-take_value.field-0.0 in
    rw (p.1, p.2) (by_rule (assign_rule _ _ _ _) (bind_met {V = ValueCow} cow_view unit v (Err e) (evaluate chain) (λ x. change (assigned_to c.args.name.now x)) (place c.args.out.now c.args.state.now) (place c.chain_within.new.out c.args.state.now) (place c.take_value.new.self c.args.state.now)
    c.in_ok-found.ensures.value
    (may_not_meet unit e (change (assigned_to c.args.name.now (cow_view v))) (place c.chain_within.new.out c.args.state.now) (place c.take_value.new.self c.args.state.now) c.in_err-take_value.ensures.refused)))

pub returns-in_err-value-clause-performs : goal.returns-in_err-value-clause-performs
returns-in_err-value-clause-performs g c =
    let p = err_from_is_err_and c.from_residual-in_err-value.result c.from_residual-in_err-value.ensures.1 in
    let place = configuration_of g.W.CountedWrite.contents g.W.CountedWrite.failure_count in
    let chain = chain_value (answers_with (g.H.NamedFilters.named c.args.context.now.host.now)) (chain_view c.args.chain.now) in
    let v = c.in_ok-found.found in
    let e = c.in_err-value.field-0.0 in
    rw (p.1, p.2) (by_rule (assign_rule _ _ _ _) (bind_met {V = ValueCow} cow_view unit v (Err e) (evaluate chain) (λ x. change (assigned_to c.args.name.now x)) (place c.args.out.now c.args.state.now) (place c.chain_within.new.out c.args.state.now) (place c.take_value.new.self c.args.state.now)
    c.in_ok-found.ensures.value
    (performs_from (Err e) (change (assigned_to c.args.name.now (cow_view v))) _ _ (environment_of c.args.state.now) (place c.take_value.new.self c.args.state.now) c.in_ok-take_value.ensures.goes_on
    (memory_at e c.in_err-value.ensures.value))))

pub returns-clause-performs : goal.returns-clause-performs
returns-clause-performs g c =
    let place = configuration_of g.W.CountedWrite.contents g.W.CountedWrite.failure_count in
    let chain = chain_value (answers_with (g.H.NamedFilters.named c.args.context.now.host.now)) (chain_view c.args.chain.now) in
    let v = c.in_ok-found.found in
    let same = c.in_ok-value.ensures.value in
    let stored : IsValueOrMemory (λ _. layers_of c.assign.new.self) c.assign.result (with_assigned c.args.name.now (cow_view v) (layers_of c.args.state.now)) = rw same at c.assign.ensures.set in
    by_rule (assign_rule _ _ _ _) (bind_met {V = ValueCow} cow_view unit v c.assign.result (evaluate chain) (λ x. change (assigned_to c.args.name.now x)) (place c.args.out.now c.args.state.now) (place c.chain_within.new.out c.args.state.now) (place c.take_value.new.self c.assign.new.self)
    c.in_ok-found.ensures.value
    (performs_from c.assign.result (change (assigned_to c.args.name.now (cow_view v))) _ _ (environment_of c.args.state.now) (place c.take_value.new.self c.assign.new.self) c.in_ok-take_value.ensures.goes_on
    (change_met c.assign.result (assigned_to c.args.name.now (cow_view v)) _ (environment_of c.args.state.now) _ (gives_merged c.assign.result _ _ stored))))

pub returns-clause-takes : goal.returns-clause-takes
returns-clause-takes g c =
    let place = configuration_of g.W.CountedWrite.contents g.W.CountedWrite.failure_count in
    let chain = chain_value (answers_with (g.H.NamedFilters.named c.args.context.now.host.now)) (chain_view c.args.chain.now) in
    assigned_taken c.assign.result c.in_ok-found.found chain (place c.args.out.now c.args.state.now) (place c.chain_within.new.out c.args.state.now) _ _ _ _
    c.in_ok-found.ensures.value c.in_ok-found.ensures.takes (rw c.as_value.ensures at c.in_ok-take_value.ensures.takes)

pub returns-clause-kept : goal.returns-clause-kept
unfolding node_names
returns-clause-kept g c N within inside =
    let d = view c.in_ok-value.value in
    let stored : IsValueOrMemory (λ _. layers_of c.assign.new.self) c.assign.result (with_assigned c.args.name.now d (layers_of c.args.state.now)) = c.assign.ensures.set in
    kept_assigned N c.args.name.now d (layers_of c.args.state.now) (layers_of c.assign.new.self) c.assign.result within.0 stored c.assign.ensures.unchanged

pub returns-in_err-found-clause-bounded : goal.returns-in_err-found-clause-bounded
returns-in_err-found-clause-bounded g c = c.chain_within.ensures.bounded

pub returns-in_err-take_value-clause-bounded : goal.returns-in_err-take_value-clause-bounded
returns-in_err-take_value-clause-bounded g c = less_then c.take_value.ensures.bounded c.chain_within.ensures.bounded

pub returns-in_err-value-clause-bounded : goal.returns-in_err-value-clause-bounded
returns-in_err-value-clause-bounded g c = less_then c.take_value.ensures.bounded c.chain_within.ensures.bounded

pub returns-clause-bounded : goal.returns-clause-bounded
returns-clause-bounded g c = less_then c.take_value.ensures.bounded c.chain_within.ensures.bounded

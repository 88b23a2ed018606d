use Rattle.std.proofs.Common.{List, map, ap, sym, subst, ◌∙◌}
use Rattle.std.specs.Prelude.{OnOk}
use Rattle.std.proofs.lemmas.Result.{err_from_is_err_and}
use Rattle.liquid_model.specs.Cow.{cow_view}
use Rattle.liquid_model.specs.declared.cow.ValueCow.{ValueCow}
use Rattle.liquid_core.specs.States.{environment_of}
use Rattle.liquid_evaluation.specs.ChainView.{chain_filter_view, chain_view}
use Rattle.liquid_evaluation.specs.Evaluation.{answers_with, chain_value, through}
use Rattle.liquid_evaluation.specs.declared.chain.ChainFilter.{ChainFilter}
use Rattle.liquid_evaluation.proofs.Calls.{chain_from, chain_faulted}
use Rattle.liquid_meaning.specs.Runs.{evaluate}
use Rattle.liquid_engine.specs.Limits.{TakesBytes}
use Rattle.liquid_engine.specs.Performs.{configuration_of}
use Rattle.liquid_engine.specs.inside.ChainBytes.{through_bytes}
use Rattle.liquid_engine.proofs.ChainBytes.{chain_taken}
use Rattle.liquid_engine.proofs.Joined.{evaluated_as, no_value_met}
use Rattle.liquid_engine.proofs.Reserves.{no_less}
use Rattle.liquid_engine.proofs.chain_within.chain_within.Goals as goal

pub returns-in_err-entry-clause-value : goal.returns-in_err-entry-clause-value
returns-in_err-entry-clause-value g c =
    let p = err_from_is_err_and c.from_residual.result c.from_residual.ensures.1 in
    let place = configuration_of g.W.CountedWrite.contents g.W.CountedWrite.failure_count in
    let answers = answers_with (g.H.NamedFilters.named c.args.host.now) in
    rw (p.1, p.2) (no_value_met {V = ValueCow} cow_view c.in_err-entry.field-0.0 (chain_value answers (chain_view c.args.chain.now)) (place c.args.out.now c.args.state.now)
    (chain_faulted answers (chain_view c.args.chain.now) (environment_of c.args.state.now) c.in_err-entry.field-0.0.kind c.in_err-entry.ensures.value))

pub returns-clause-value : goal.returns-clause-value
returns-clause-value g c =
    let place = configuration_of g.W.CountedWrite.contents g.W.CountedWrite.failure_count in
    let e = environment_of c.args.state.now in
    let answers = answers_with (g.H.NamedFilters.named c.args.host.now) in
    let chain = chain_view c.args.chain.now in
    let d = cow_view c.in_ok-entry.entry in
    evaluated_as {V = ValueCow} cow_view c.filters_within.result (chain_value answers chain) (through answers (map chain_filter_view c.deref.result.now) d) (place c.args.out.now c.args.state.now) (place c.filters_within.new.out c.args.state.now)
    (chain_from answers chain e d c.in_ok-entry.ensures.value ∙ ap (λ (xs : List ChainFilter). through answers (map chain_filter_view xs) d e) (sym c.deref.ensures.value))
    c.filters_within.ensures.value

pub returns-clause-takes : goal.returns-clause-takes
returns-clause-takes g c =
    let e = environment_of c.args.state.now in
    let answers = answers_with (g.H.NamedFilters.named c.args.host.now) in
    let d = cow_view c.in_ok-entry.entry in
    chain_taken c.filters_within.result answers (chain_view c.args.chain.now) e d _ _ c.in_ok-entry.ensures.value
    (subst (λ (xs : List ChainFilter). OnOk c.filters_within.result (TakesBytes (through_bytes answers (map chain_filter_view xs) d e) (g.W.CountedWrite.left c.args.out.now.writer.now) (g.W.CountedWrite.left c.filters_within.new.out.writer.now))) c.deref.ensures.value c.filters_within.ensures.takes)

pub returns-in_err-entry-clause-bounded : goal.returns-in_err-entry-clause-bounded
returns-in_err-entry-clause-bounded g c = no_less

pub returns-clause-bounded : goal.returns-clause-bounded
returns-clause-bounded g c = c.filters_within.ensures.bounded

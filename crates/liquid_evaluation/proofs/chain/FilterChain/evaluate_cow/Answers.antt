use Rattle.std.proofs.Common.{[], ◌∷◌, map, refl, ap, sym, ◌∙◌, ◌≡◌, ℕ, ◌<◌, List, Option, Some, None, IsOk, length, arith}
use Rattle.std.proofs.lemmas.Bool.{false≢true}
use Rattle.liquid_core.specs.Expressions.{value_of, nil_if_missing}
use Rattle.liquid_core.specs.declared.missing_value.Missing.{Missing}
use Rattle.std.proofs.lemmas.Result.{err_from_is_err_and}
use Rattle.liquid_model.specs.Cow.{cow_view}
use Rattle.liquid_model.specs.Data.{Datum}
use Rattle.liquid_model.specs.View.{view}
use Rattle.liquid_core.specs.States.{environment_of}
use Rattle.liquid_evaluation.specs.Calls.{applied}
use Rattle.liquid_evaluation.specs.Tree.{FilterCall}
use Rattle.liquid_evaluation.specs.ChainView.{chain_view, chain_filter_view}
use Rattle.liquid_evaluation.specs.Evaluation.{answers_in, answers_with, calls_by, chain_value, entry_value}
use Rattle.liquid_evaluation.proofs.Calls.{chain_from, chain_faulted, filters_more, filters_stop, filters_end}
use Rattle.liquid_evaluation.proofs.chain.FilterChain.evaluate_cow.Goals as goal

pub returns-in_err-value-clause-value : goal.returns-in_err-value-clause-value
returns-in_err-value-clause-value g c =
    let p = err_from_is_err_and c.from_residual.result c.from_residual.ensures.1 in
    rw (p.1, p.2) (chain_faulted (answers_with (g.H.NamedFilters.named c.args.host.now)) (chain_view c.args.self.now) (environment_of c.args.state.now) c.in_err-value.field-0.0.kind c.in_err-value.ensures.value)

pub loop-stored-init : goal.loop-stored-init
loop-stored-init g c =
    chain_from (answers_with (g.H.NamedFilters.named c.args.host.now)) (chain_view c.args.self.now) (environment_of c.args.state.now) (cow_view c.in_ok-value.value) c.in_ok-value.ensures.value
    ∙ ap (λ xs. applied (calls_by (answers_in (environment_of c.args.state.now).missing (answers_with (g.H.NamedFilters.named c.args.host.now))) (map chain_filter_view xs)) (cow_view c.in_ok-value.value) (environment_of c.args.state.now)) (sym c.deref-stored-items.ensures.value)

pub returns-in_err-apply_named-clause-value : goal.returns-in_err-apply_named-clause-value
returns-in_err-apply_named-clause-value g c =
    let p = err_from_is_err_and c.from_residual-in_err-apply_named.result c.from_residual-in_err-apply_named.ensures.1 in
    let e = environment_of c.args.state.now in
    rw (p.1, p.2) (filters_stop (answers_in (environment_of c.args.state.now).missing (answers_with (g.H.NamedFilters.named c.args.host.now))) chain_filter_view (chain_value (answers_with (g.H.NamedFilters.named c.args.host.now)) (chain_view c.args.self.now) e) e c.deref-stored-items.result.now c.loop-stored.stored-index c.stored-item.result (cow_view c.loop-stored.value)
    c.in_err-apply_named.field-0.0.kind c.loop-stored-test.true c.stored-item.is
    (rw c.as_value.ensures at c.in_err-apply_named.ensures.value)
    c.loop-stored.invariant)

pub loop-stored-preserved : goal.loop-stored-preserved
loop-stored-preserved g c =
    let e = environment_of c.args.state.now in
    filters_more (answers_in (environment_of c.args.state.now).missing (answers_with (g.H.NamedFilters.named c.args.host.now))) chain_filter_view (chain_value (answers_with (g.H.NamedFilters.named c.args.host.now)) (chain_view c.args.self.now) e) e c.deref-stored-items.result.now c.loop-stored.stored-index c.stored-item.result (cow_view c.loop-stored.value)
    (view c.in_ok-apply_named.field-0) c.loop-stored-test.true c.stored-item.is
    (rw c.as_value.ensures at c.in_ok-apply_named.ensures.value)
    c.loop-stored.invariant

pub returns-clause-value : goal.returns-clause-value
returns-clause-value g c =
    filters_end (answers_in (environment_of c.args.state.now).missing (answers_with (g.H.NamedFilters.named c.args.host.now))) chain_filter_view (chain_value (answers_with (g.H.NamedFilters.named c.args.host.now)) (chain_view c.args.self.now) (environment_of c.args.state.now)) (environment_of c.args.state.now) c.deref-stored-items.result.now c.loop-stored.stored-index
    (cow_view c.loop-stored.value) c.loop-stored-test.false c.loop-stored.invariant

-- an entry that has a value has it before filters too
there_before : (missing : Missing) (o : Option Datum) (calls : List FilterCall) → IsOk (nil_if_missing missing o) → IsOk (entry_value missing o calls)
there_before missing (Some d) calls h = h
there_before missing None [] h = h
there_before missing None (call ∷ calls) h = refl

none_at : {X Y : Type 0} (f : X → Y) (xs : List X) (i : ℕ) → map f xs ≡ [] → i < length xs → ⊥
none_at f [] i e h = omega (arith, h)
none_at f (x ∷ xs) i e h = cc

pub returns-in_err-value-clause-no_memory : goal.returns-in_err-value-clause-no_memory
returns-in_err-value-clause-no_memory g c = λ empty none there.
    absurd (false≢true (c.in_err-value.ensures.no_memory none (there_before (environment_of c.args.state.now).missing (value_of (chain_view c.args.self.now).entry (environment_of c.args.state.now)) (chain_view c.args.self.now).filters there)))

pub returns-in_err-apply_named-clause-no_memory : goal.returns-in_err-apply_named-clause-no_memory
returns-in_err-apply_named-clause-no_memory g c = λ empty none there.
    absurd (none_at chain_filter_view c.deref-stored-items.result.now c.loop-stored.stored-index (ap (map chain_filter_view) c.deref-stored-items.ensures.value ∙ empty) c.loop-stored-test.true)

use Rattle.std.proofs.Common.{rules, ap, subst, ◌∙◌, Ok, Err, FitsSigned, w64, to_z, of_z, string_bytes}
use Rattle.std.proofs.lemmas.Int.{to_z-of_z}
use Rattle.std.proofs.lemmas.Result.{err_from_is_err_and}
use Rattle.std.specs.Fmt.{signed_decimal}
use Rattle.liquid_model.specs.Answer.{IsValueOrMemory}
use Rattle.liquid_model.specs.Data.{number}
use Rattle.liquid_core.specs.States.{environment_of, layers_of, with_counter}
use Rattle.liquid_engine.specs.Performs.{unit, configuration_of}
use Rattle.liquid_engine.proofs.Counting.{view-Integer}
use Rattle.liquid_engine.proofs.Joined.{bind_met, bind_faulted, change_met, gives_merged, memory_at, write_met}
use Rattle.liquid_engine.proofs.StateKept.{kept_counter}
use Rattle.liquid_engine.proofs.Pieces.{writes_as}
use Rattle.liquid_meaning.specs.Effects.{counted_to}
use Rattle.liquid_meaning.specs.Runs.{change, write}
use Rattle.liquid_engine.proofs.counters.show_and_store.Goals as goal

pub returns-in_err-push_number-clause-performs : goal.returns-in_err-push_number-clause-performs
returns-in_err-push_number-clause-performs g c =
    let p = err_from_is_err_and c.from_residual.result c.from_residual.ensures.1 in
    let fits : FitsSigned w64 c.args.shown = search rules in
    let e = c.in_err-push_number.field-0.0 in
    rw (p.1, p.2) (bind_faulted unit unit e (write (signed_decimal c.args.shown)) (λ a. change (counted_to c.args.name.now c.args.stored)) _ _
    (write_met (Err e) (signed_decimal c.args.shown) _ _ (environment_of c.args.state.now) (writes_as (Err e) _ (signed_decimal c.args.shown) _ _ (ap signed_decimal (to_z-of_z w64 c.args.shown fits)) c.in_err-push_number.ensures.writes)))

pub returns-in_err-from_str-clause-performs : goal.returns-in_err-from_str-clause-performs
returns-in_err-from_str-clause-performs g c =
    let place = configuration_of g.W.CountedWrite.contents g.W.CountedWrite.failure_count in
    let p = err_from_is_err_and c.from_residual-in_err-from_str.result c.from_residual-in_err-from_str.ensures.1 in
    let fits : FitsSigned w64 c.args.shown = search rules in
    let v = c.in_ok-push_number.field-0 in
    rw p.1 (bind_met unit unit v _ (write (signed_decimal c.args.shown)) (λ a. change (counted_to c.args.name.now c.args.stored)) (place c.args.out.now c.args.state.now) (place c.push_number.new.out c.args.state.now) (place c.push_number.new.out c.args.state.now)
    (write_met (Ok v) (signed_decimal c.args.shown) _ _ (environment_of c.args.state.now) (writes_as (Ok v) _ (signed_decimal c.args.shown) _ _ (ap signed_decimal (to_z-of_z w64 c.args.shown fits)) c.in_ok-push_number.ensures.writes)) (memory_at _ p.2))

pub returns-clause-performs : goal.returns-clause-performs
returns-clause-performs g c =
    let place = configuration_of g.W.CountedWrite.contents g.W.CountedWrite.failure_count in
    let fits : FitsSigned w64 c.args.shown = search rules in
    let fits_stored : FitsSigned w64 c.args.stored = search rules in
    let v = c.in_ok-push_number.field-0 in
    let old = layers_of c.args.state.now in
    let seen : IsValueOrMemory (λ _. layers_of c.set_index.new.self) c.set_index.result (with_counter (string_bytes c.in_ok-from_str.field-0) (number c.args.stored) old) =
    subst (λ d. IsValueOrMemory (λ _. layers_of c.set_index.new.self) c.set_index.result (with_counter (string_bytes c.in_ok-from_str.field-0) d old)) (view-Integer (to_z w64 (of_z w64 c.args.stored)) ∙ ap number (to_z-of_z w64 c.args.stored fits_stored)) c.set_index.ensures.set in
    let stored : IsValueOrMemory (λ _. layers_of c.set_index.new.self) c.set_index.result (with_counter c.args.name.now (number c.args.stored) old) =
    subst (λ n. IsValueOrMemory (λ _. layers_of c.set_index.new.self) c.set_index.result (with_counter n (number c.args.stored) old)) c.in_ok-from_str.ensures.ok seen in
    bind_met unit unit v c.set_index.result (write (signed_decimal c.args.shown)) (λ a. change (counted_to c.args.name.now c.args.stored)) (place c.args.out.now c.args.state.now) (place c.push_number.new.out c.args.state.now) (place c.push_number.new.out c.set_index.new.self)
    (write_met (Ok v) (signed_decimal c.args.shown) _ _ (environment_of c.args.state.now) (writes_as (Ok v) _ (signed_decimal c.args.shown) _ _ (ap signed_decimal (to_z-of_z w64 c.args.shown fits)) c.in_ok-push_number.ensures.writes))
    (change_met c.set_index.result (counted_to c.args.name.now c.args.stored) _ (environment_of c.args.state.now) _ (gives_merged c.set_index.result _ _ stored))

pub returns-clause-kept : goal.returns-clause-kept
returns-clause-kept g c N inside =
    let fits_stored : FitsSigned w64 c.args.stored = search rules in
    let old = layers_of c.args.state.now in
    let seen : IsValueOrMemory (λ _. layers_of c.set_index.new.self) c.set_index.result (with_counter (string_bytes c.in_ok-from_str.field-0) (number c.args.stored) old) =
    subst (λ d. IsValueOrMemory (λ _. layers_of c.set_index.new.self) c.set_index.result (with_counter (string_bytes c.in_ok-from_str.field-0) d old)) (view-Integer (to_z w64 (of_z w64 c.args.stored)) ∙ ap number (to_z-of_z w64 c.args.stored fits_stored)) c.set_index.ensures.set in
    let stored : IsValueOrMemory (λ _. layers_of c.set_index.new.self) c.set_index.result (with_counter c.args.name.now (number c.args.stored) old) =
    subst (λ n. IsValueOrMemory (λ _. layers_of c.set_index.new.self) c.set_index.result (with_counter n (number c.args.stored) old)) c.in_ok-from_str.ensures.ok seen in
    kept_counter N c.args.name.now (number c.args.stored) old (layers_of c.set_index.new.self) c.set_index.result inside stored c.set_index.ensures.unchanged

pub returns-in_err-push_number-clause-bounded : goal.returns-in_err-push_number-clause-bounded
returns-in_err-push_number-clause-bounded g c = c.push_number.ensures.bounded

pub returns-in_err-from_str-clause-bounded : goal.returns-in_err-from_str-clause-bounded
returns-in_err-from_str-clause-bounded g c = c.push_number.ensures.bounded

pub returns-clause-bounded : goal.returns-clause-bounded
returns-clause-bounded g c = c.push_number.ensures.bounded

use Rattle.std.proofs.Common.{ap, subst, Ok, Err, Some, string_bytes}
use Rattle.std.proofs.lemmas.Result.{err_from_is_err_and}
use Rattle.liquid_core.specs.States.{environment_of, layers_of, merged_layers}
use Rattle.liquid_core.proofs.States.{changed_set}
use Rattle.liquid_engine.specs.inside.Changed.{written_unless_last}
use Rattle.liquid_engine.specs.Performs.{Performs, configuration_of, unit}
use Rattle.liquid_engine.proofs.Joined.{bind_met, bind_faulted, change_met, read_met}
use Rattle.liquid_engine.proofs.StateKept.{kept_changed}
use Rattle.liquid_meaning.specs.Effects.{changed_to}
use Rattle.liquid_meaning.specs.Runs.{change, ◌>>=◌}
use Rattle.liquid_engine.proofs.ifchanged.show_if_changed.Goals as goal

pub returns-in_err-write_unless_last-clause-performs : goal.returns-in_err-write_unless_last-clause-performs
returns-in_err-write_unless_last-clause-performs g c =
    let place = configuration_of g.W.CountedWrite.contents g.W.CountedWrite.failure_count in
    let p = err_from_is_err_and c.from_residual.result c.from_residual.ensures.1 in
    let t = string_bytes c.args.text in
    let written : Performs (Err c.in_err-write_unless_last.field-0.0) (written_unless_last (environment_of c.args.state.now).registers.changed t) (place c.args.out.now c.args.state.now) (place c.write_unless_last.new.out c.args.state.now) =
    subst (λ x. Performs (Err c.in_err-write_unless_last.field-0.0) (written_unless_last (environment_of c.args.state.now).registers.changed x) (place c.args.out.now c.args.state.now) (place c.write_unless_last.new.out c.args.state.now)) c.as_str.ensures.value c.in_err-write_unless_last.ensures.performs in
    rw (p.1, p.2) (read_met unit (Err c.in_err-write_unless_last.field-0.0) (λ e. e.registers.changed) (λ last. written_unless_last last t >>= (λ a. change (changed_to t))) (place c.args.out.now c.args.state.now) (place c.write_unless_last.new.out c.args.state.now)
    (bind_faulted unit unit c.in_err-write_unless_last.field-0.0 (written_unless_last (environment_of c.args.state.now).registers.changed t) (λ a. change (changed_to t)) (place c.args.out.now c.args.state.now) (place c.write_unless_last.new.out c.args.state.now) written))

pub returns-clause-performs : goal.returns-clause-performs
returns-clause-performs g c =
    let place = configuration_of g.W.CountedWrite.contents g.W.CountedWrite.failure_count in
    let t = string_bytes c.args.text in
    let first = c.in_ok-write_unless_last.field-0 in
    let written : Performs (Ok first) (written_unless_last (environment_of c.args.state.now).registers.changed t) (place c.args.out.now c.args.state.now) (place c.write_unless_last.new.out c.args.state.now) =
    subst (λ x. Performs (Ok first) (written_unless_last (environment_of c.args.state.now).registers.changed x) (place c.args.out.now c.args.state.now) (place c.write_unless_last.new.out c.args.state.now)) c.as_str.ensures.value c.in_ok-write_unless_last.ensures.performs in
    read_met unit (Ok tt) (λ e. e.registers.changed) (λ last. written_unless_last last t >>= (λ a. change (changed_to t))) (place c.args.out.now c.args.state.now) _
    (bind_met unit unit first (Ok tt) (written_unless_last (environment_of c.args.state.now).registers.changed t) (λ a. change (changed_to t)) (place c.args.out.now c.args.state.now) (place c.write_unless_last.new.out c.args.state.now) _ written
    (change_met (Ok tt) (changed_to t) _ (environment_of c.args.state.now) _ (ap merged_layers (changed_set c.args.state.now (Some c.args.text)))))

pub returns-clause-kept : goal.returns-clause-kept
returns-clause-kept g c N = kept_changed N (Some (string_bytes c.args.text)) (layers_of c.args.state.now) _ (changed_set c.args.state.now (Some c.args.text))

pub returns-in_err-write_unless_last-clause-bounded : goal.returns-in_err-write_unless_last-clause-bounded
returns-in_err-write_unless_last-clause-bounded g c = c.write_unless_last.ensures.bounded

pub returns-clause-bounded : goal.returns-clause-bounded
returns-clause-bounded g c = c.write_unless_last.ensures.bounded

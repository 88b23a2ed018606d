use Rattle.std.proofs.Common.{subst, cond, true, false, Ok, ◌≡◌}
use Rattle.liquid_core.specs.States.{environment_of}
use Rattle.liquid_engine.specs.Performs.{Performs, configuration_of}
use Rattle.liquid_engine.proofs.Joined.{done_met, write_met}
use Rattle.liquid_meaning.specs.Effects.{is_last_text}
use Rattle.liquid_meaning.specs.Runs.{done, write}
use Rattle.liquid_engine.proofs.Reserves.{no_less}
use Rattle.liquid_engine.proofs.ifchanged.write_unless_last.Goals as goal

pub returns-then-is_last-clause-performs : goal.returns-then-is_last-clause-performs
returns-then-is_last-clause-performs g c =
    let place = configuration_of g.W.CountedWrite.contents g.W.CountedWrite.failure_count in
    let last : true ≡ is_last_text (environment_of c.args.state.now).registers.changed c.args.text.now = c.if-is_last.ensures in
    subst (λ b. Performs (Ok tt) (cond b (done tt) (write c.args.text.now)) (place c.args.out.now c.args.state.now) (place c.args.out.now c.args.state.now)) last (done_met tt (place c.args.out.now c.args.state.now))

pub returns-clause-performs : goal.returns-clause-performs
returns-clause-performs g c =
    let place = configuration_of g.W.CountedWrite.contents g.W.CountedWrite.failure_count in
    let last : false ≡ is_last_text (environment_of c.args.state.now).registers.changed c.args.text.now = c.if-is_last.ensures in
    subst (λ b. Performs c.push_text.result (cond b (done tt) (write c.args.text.now)) (place c.args.out.now c.args.state.now) (place c.push_text.new.self c.args.state.now)) last
    (write_met c.push_text.result c.args.text.now _ _ (environment_of c.args.state.now) c.push_text.ensures.writes)

pub returns-then-is_last-clause-bounded : goal.returns-then-is_last-clause-bounded
returns-then-is_last-clause-bounded g c = no_less

pub returns-clause-bounded : goal.returns-clause-bounded
returns-clause-bounded g c = c.push_text.ensures.bounded

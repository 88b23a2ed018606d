use Rattle.std.proofs.Common.{◌≡◌, refl, Option, Result, Ok, sym, ap, subst}
use Rattle.liquid_model.specs.declared.error.Error.{Error}
use Rattle.liquid_core.specs.States.{environment_of}
use Rattle.liquid_core.specs.declared.interrupt.Interrupt.{Interrupt}
use Rattle.liquid_engine.specs.inside.Partials.{left_with}
use Rattle.liquid_engine.proofs.Interrupts.{interrupt_of}
use Rattle.liquid_engine.proofs.isolated_scope.left_by.Goals as goal

abbrev as_ok : Option Interrupt → Result (Option Interrupt) Error
as_ok i = Ok i

pub returns-in-Ok : goal.returns-in-Ok
returns-in-Ok c =
    let left : Option Interrupt = c.args.own.now.interrupt in
    subst (λ r. ◌≡◌ {A = Result (Option Interrupt) Error} (Ok left) (left_with r (environment_of c.args.own.now).registers.interrupt)) (sym c.in-Ok.is)
    (ap as_ok (sym (interrupt_of c.args.own.now left refl)))

use Rattle.std.proofs.Common.{sym, ap, ◌∙◌}
use Rattle.liquid_core.specs.States.{layers_of, with_interrupt}
use Rattle.liquid_core.proofs.States.{interrupt_of, interrupt_set}
use Rattle.liquid_meaning.specs.Effects.{is_break}
use Rattle.liquid_engine.proofs.loop_setup.takes_break.Goals as goal

pub returns-clause-was : goal.returns-clause-was
returns-clause-was c = c.ends_items.ensures ∙ ap is_break (c.take.ensures.value ∙ sym (interrupt_of c.args.state.now))

pub returns-clause-cleared : goal.returns-clause-cleared
returns-clause-cleared c = interrupt_set c.args.state.now c.take.new.self ∙ ap (λ i. with_interrupt i (layers_of c.args.state.now)) c.take.ensures.after

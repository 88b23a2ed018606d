use Rattle.liquid_core.proofs.Messages.{message_begins}
use Rattle.liquid_core.proofs.expression.without_value.Goals as goal

pub returns-in-Ok-clause-message : goal.returns-in-Ok-clause-message
returns-in-Ok-clause-message g c =
    message_begins (g.D.Display.output c.args.spelled.now) c.in-Ok.message c.with_message.result c.in-Ok.ensures.line c.with_message.ensures.message c.in-Ok.ensures.front

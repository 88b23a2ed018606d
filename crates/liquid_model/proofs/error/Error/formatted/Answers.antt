use Rattle.liquid_model.proofs.Quotes.{message_written}
use Rattle.liquid_model.proofs.error.Error.formatted.Goals as goal

pub returns-in-Ok-clause-message : goal.returns-in-Ok-clause-message
returns-in-Ok-clause-message g c =
    message_written (g.M.Display.output c.args.message) c.args.kind c.in-Ok.written c.with_message.result c.in-Ok.ensures.ok c.with_message.ensures.message

use Rattle.liquid_commands.proofs.Endings.{text_given}
use Rattle.liquid_commands.proofs.values.value_of_parts.Goals as goal

pub returns-in-None : goal.returns-in-None
returns-in-None c = text_given c.args.before.now c.args.word.now _ c.in-None.ensures.cases c.value_named-in-None.ensures

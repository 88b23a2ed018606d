use Rattle.liquid_commands.proofs.Endings.{whole_before}
use Rattle.liquid_commands.proofs.sizes.digits_before.Goals as goal

pub returns-in-None : goal.returns-in-None
returns-in-None c = whole_before c.args.unit c.args.word.now c.letters.result.now c.letters.ensures c.in-None.ensures.cases

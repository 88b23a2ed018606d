use Rattle.liquid_yaml.proofs.Blocks.{blank_last}
use Rattle.liquid_yaml.proofs.block.ends_blank.Goals as goal

pub returns-in-Some : goal.returns-in-Some
returns-in-Some c = blank_last c.args.lines.now c.last.result c.in-Some.line c.is_empty.result c.in-Some.is c.last.ensures.value c.is_empty.ensures

use Rattle.std.proofs.Common.{ap, refl}
use Rattle.std.specs.Option.{option_map}
use Rattle.liquid_parser.specs.Classification.{unless_node}
use Rattle.liquid_parser.proofs.classify.blocks.read_unless.Goals as goal

pub returns-clause-node : goal.returns-clause-node
returns-clause-node c = (ap (option_map unless_node) c.in_ok-condition.ensures.condition, (c.open.result.first_end, c.open.result.last_end, refl))

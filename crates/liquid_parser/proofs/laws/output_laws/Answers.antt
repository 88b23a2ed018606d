use Rattle.liquid_parser.proofs.OutputLaws.{other_is, plain_is, raw_is}
use Rattle.liquid_parser.proofs.laws.output_laws.Goals as goal

pub returns-clause-plain : goal.returns-clause-plain
returns-clause-plain c = plain_is

pub returns-clause-raw : goal.returns-clause-raw
returns-clause-raw c = raw_is

pub returns-clause-others : goal.returns-clause-others
returns-clause-others c = other_is

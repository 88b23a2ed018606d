use Rattle.liquid_parser.proofs.WholeSources.{plain_sources, at_most_one_template, items_without_paths, nothing_dropped}
use Rattle.liquid_parser.proofs.laws.template_laws.Goals as goal

pub returns-clause-plain : goal.returns-clause-plain
returns-clause-plain c = plain_sources

pub returns-clause-unique : goal.returns-clause-unique
returns-clause-unique c = at_most_one_template

pub returns-clause-items : goal.returns-clause-items
returns-clause-items c = items_without_paths

pub returns-clause-written : goal.returns-clause-written
returns-clause-written c = nothing_dropped

use Rattle.liquid_jekyll_host_filters.proofs.GroupLaws.{items_law, names_law}
use Rattle.liquid_jekyll_host_filters.proofs.laws.groups_lose_nothing.Goals as goal

pub returns-clause-items : goal.returns-clause-items
returns-clause-items c = items_law

pub returns-clause-names : goal.returns-clause-names
returns-clause-names c = names_law

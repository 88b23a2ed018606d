use Rattle.liquid_meaning.proofs.laws.free_laws.Goals as goal
use Rattle.liquid_meaning.proofs.FreeNames.{free_data_alone, free_names_alone, free_uses_alone}

pub returns-clause-names : goal.returns-clause-names
returns-clause-names c = free_names_alone

pub returns-clause-uses : goal.returns-clause-uses
returns-clause-uses c = free_uses_alone

pub returns-clause-data : goal.returns-clause-data
returns-clause-data c = free_data_alone

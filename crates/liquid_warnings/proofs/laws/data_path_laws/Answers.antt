use Rattle.liquid_warnings.proofs.DataPaths.{first_lack_is_lack, nothing_else_lacks}
use Rattle.liquid_warnings.proofs.laws.data_path_laws.Goals as goal

pub returns-clause-lack : goal.returns-clause-lack
returns-clause-lack c = first_lack_is_lack

pub returns-clause-nothing_else : goal.returns-clause-nothing_else
returns-clause-nothing_else c = nothing_else_lacks

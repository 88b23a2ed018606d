use Rattle.liquid_meaning.proofs.worked.worked_runs.Goals as goal
use Rattle.liquid_meaning.proofs.Computed.{worked_stores, worked_loops, worked_partials, worked_missing}

pub returns-clause-stores : goal.returns-clause-stores
returns-clause-stores c = worked_stores

pub returns-clause-loops : goal.returns-clause-loops
returns-clause-loops c = worked_loops

pub returns-clause-partials : goal.returns-clause-partials
returns-clause-partials c = worked_partials

pub returns-clause-missing : goal.returns-clause-missing
returns-clause-missing c = worked_missing

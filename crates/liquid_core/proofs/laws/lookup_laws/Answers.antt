use Rattle.liquid_core.proofs.laws.lookup_laws.Goals as goal
use Rattle.liquid_core.proofs.Lawful.{innermost_scope_decides, first_layer_decides}

pub returns-clause-innermost_scope_decides : goal.returns-clause-innermost_scope_decides
returns-clause-innermost_scope_decides c = innermost_scope_decides

pub returns-clause-first_layer_decides : goal.returns-clause-first_layer_decides
returns-clause-first_layer_decides c = first_layer_decides

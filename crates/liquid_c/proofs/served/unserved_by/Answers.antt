use Rattle.std.proofs.Common.{rules}
use Rattle.liquid_c.specs.Served.{asks_more, no_memory}
use Rattle.liquid_c.proofs.served.unserved_by.Goals as goal

pub returns-in-Ok : goal.returns-in-Ok
returns-in-Ok c = asks_more c.in-Ok.asked (search rules) (search rules)

pub returns : goal.returns
returns c = no_memory c.in-Err.fault (search rules)

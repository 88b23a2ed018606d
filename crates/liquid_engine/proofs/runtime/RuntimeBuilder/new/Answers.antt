use Rattle.liquid_engine.proofs.Renderings.{held_none}
use Rattle.liquid_engine.proofs.runtime.RuntimeBuilder.new.Goals as goal

pub returns-clause-globals : goal.returns-clause-globals
returns-clause-globals g c = held_none c.new.result c.new.ensures.empty

use Rattle.liquid_engine.proofs.Renderings.{held_none}
use Rattle.liquid_c.proofs.render.empty_data.Goals as goal

pub returns : goal.returns
returns c = held_none c.new.result c.new.ensures.empty

use Rattle.liquid_site.proofs.Takes.{data_set}
use Rattle.liquid_site.proofs.take.set_data.Goals as goal

pub returns-clause-contents : goal.returns-clause-contents
returns-clause-contents c = data_set c.apply.result c.args.«data» c.args.site.now c.apply.new.self c.apply.ensures.applied

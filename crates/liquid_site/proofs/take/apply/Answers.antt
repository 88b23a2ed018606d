use Rattle.liquid_site.proofs.Takes.{refused_change}
use Rattle.liquid_site.proofs.take.apply.Goals as goal

pub returns-in-Err-clause-taken : goal.returns-in-Err-clause-taken
returns-in-Err-clause-taken c = refused_change c.refused.result c.args.change c.in-Err.error.kind c.args.site.now c.apply.new.self c.refused.ensures.not_memory c.in-Err.ensures.applied

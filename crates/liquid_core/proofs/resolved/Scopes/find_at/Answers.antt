use Rattle.liquid_core.proofs.Among.{found_at}
use Rattle.liquid_core.proofs.resolved.Scopes.find_at.Goals as goal

pub returns-clause-among : goal.returns-clause-among
returns-clause-among c = found_at c.args.self.frames.now c.args.last _ _ c.args.self.outer.now c.find.result c.requires c.index-frames-last.is c.find.ensures.among

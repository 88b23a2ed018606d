use Rattle.std.proofs.lemmas.List.{nil_from_length}
use Rattle.liquid_core.proofs.Among.{plain_finds_none}
use Rattle.liquid_engine.proofs.runtime.Runtime.get.Goals as goal

pub returns-clause-no_memory : goal.returns-clause-no_memory
returns-clause-no_memory g c = c.get.ensures.no_memory (plain_finds_none c.args.self.now.state _ (nil_from_length _ c.args.self.now.plain))

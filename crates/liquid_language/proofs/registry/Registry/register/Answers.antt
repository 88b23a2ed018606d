use Rattle.liquid_language.proofs.Inserted.{listed_inserted}
use Rattle.liquid_language.proofs.registry.Registry.register.Goals as goal

pub returns-clause-registered : goal.returns-clause-registered
returns-clause-registered g c = listed_inserted (λ k. k) c.insert.new.self.entries c.args.self.now.kinds.entries c.args.name c.args.kind c.in_ok-insert.ensures.entries

use Rattle.liquid_language.proofs.Inserted.{listed_inserted}
use Rattle.liquid_syntax.proofs.partials.Partials.refuse.Goals as goal

pub returns-clause-kept : goal.returns-clause-kept
returns-clause-kept c = listed_inserted (λ e. e.kind) c.insert.new.self.entries c.args.self.now.refused.entries c.args.name c.args.fault c.in_ok-insert.ensures.entries

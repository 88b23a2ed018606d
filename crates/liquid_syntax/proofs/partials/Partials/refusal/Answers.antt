use Rattle.liquid_language.proofs.Inserted.{found_reference}
use Rattle.liquid_syntax.proofs.partials.Partials.refusal.Goals as goal

pub returns : goal.returns
returns c = found_reference (λ e. e.kind) c.get.result c.args.name.now c.args.self.now.refused.entries c.get.ensures.value

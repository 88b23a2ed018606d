use Rattle.std.proofs.Common.{◌∙◌}
use Rattle.liquid_language.proofs.Inserted.{found_reference}
use Rattle.liquid_language.proofs.registry.Registry.get.Goals as goal

pub returns : goal.returns
returns g c = let h = c.copied.ensures in h ∙ found_reference (λ k. k) c.get.result c.args.name.now c.args.self.now.kinds.entries c.get.ensures.value

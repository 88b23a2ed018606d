use Rattle.std.proofs.Common.{◌∙◌, ap, map, string_bytes}
use Rattle.liquid_language.proofs.Inserted.{names_seen}
use Rattle.liquid_language.proofs.registry.Registry.names.Goals as goal

pub returns : goal.returns
returns g c = ap (map string_bytes) c.keys.ensures.rest ∙ names_seen (λ k. k) c.args.self.now.kinds.entries

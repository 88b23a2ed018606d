use Rattle.std.proofs.Common.{rules}
use Rattle.std.specs.Prelude.{string_bytes}
use Rattle.liquid_c.proofs.SeenKeys.{seen_for}
use Rattle.liquid_c.proofs.seen_key.key_of.Goals as goal

pub returns-in-Ok : goal.returns-in-Ok
returns-in-Ok c = seen_for c.args.uses.now c.args.source.now (string_bytes c.in-Ok.key) (search rules)

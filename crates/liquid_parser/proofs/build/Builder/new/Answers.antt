use Rattle.std.proofs.Common.{refl}
use Rattle.liquid_parser.proofs.Grow.{nothing_built}
use Rattle.liquid_parser.proofs.build.Builder.new.Goals as goal

pub returns : goal.returns
returns c = (nothing_built c.new.result.items c.new-2.result.items c.new.ensures.items c.new-2.ensures.items, refl)

use Rattle.std.proofs.Common.{length}
use Rattle.liquid_uses.proofs.free_names.body_ends.Given as goal

abbrev pub decreases-loop-end : goal.decreases-loop-end
decreases-loop-end l = length l.open.items

use Rattle.std.proofs.Common.{length, ◌-◌}
use Rattle.liquid_core.proofs.missing.words_of_variable.Given as goal

abbrev pub decreases-loop-at : goal.decreases-loop-at
decreases-loop-at l = length l.variable.indexes.items - l.at

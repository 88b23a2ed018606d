use Rattle.std.proofs.Common.{◌≡◌, length}
use Rattle.liquid_c.specs.Levels.{still_open}
use Rattle.liquid_c.proofs.levels.close_ended.Given as goal

abbrev pub invariant-ended : goal.invariant-ended
invariant-ended l = still_open l.at l.initial.open ≡ still_open l.at l.open

abbrev pub decreases-ended : goal.decreases-ended
decreases-ended l = length l.open

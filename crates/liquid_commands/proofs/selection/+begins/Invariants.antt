use Rattle.std.proofs.Common.{length}
use Rattle.liquid_commands.proofs.selection.+begins.Given as goal

abbrev pub decreases-begins : goal.decreases-begins
decreases-begins l = length l.pattern.now

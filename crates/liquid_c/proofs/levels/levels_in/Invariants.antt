use Rattle.std.proofs.Common.{◌≡◌, drop}
use Rattle.liquid_c.specs.Levels.{levels_from, levels_in}
use Rattle.liquid_c.proofs.levels.levels_in.Given as goal

-- what is left gives what all of them give
abbrev pub invariant-loop-at : goal.invariant-loop-at
invariant-loop-at l = levels_in l.nodes ≡ levels_from l.at l.open l.levels (drop l.at l.nodes)

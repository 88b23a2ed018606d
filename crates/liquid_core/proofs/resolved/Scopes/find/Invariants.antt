use Rattle.std.proofs.Common.{◌≡◌, ◌≤◌, length, take, map, reverse}
use Rattle.liquid_core.specs.Environment.{local_of}
use Rattle.liquid_core.specs.Held.{held}
use Rattle.liquid_core.specs.LoopFrames.{scope_maps}
use Rattle.liquid_core.proofs.resolved.Scopes.find.Given as goal

-- the scopes that are left decide
abbrev pub invariant-loop-left : goal.invariant-loop-left
invariant-loop-left l = (l.left ≤ length l.self.frames.now) × (local_of (scope_maps (take l.left l.self.frames.now) (reverse (map held l.self.outer.now))) l.name ≡ local_of (scope_maps l.self.frames.now (reverse (map held l.self.outer.now))) l.name)

abbrev pub decreases-loop-left : goal.decreases-loop-left
decreases-loop-left l = l.left

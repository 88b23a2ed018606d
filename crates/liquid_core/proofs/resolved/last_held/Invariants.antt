use Rattle.std.proofs.Common.{◌≡◌, map, reverse}
use Rattle.liquid_core.specs.Environment.{local_of}
use Rattle.liquid_core.specs.Held.{held}
use Rattle.liquid_core.proofs.resolved.last_held.Given as goal

-- the scopes that are left decide
abbrev pub invariant-loop-scope : goal.invariant-loop-scope
invariant-loop-scope l = local_of (reverse (map held l.scope-iterator.iter.rest.now)) l.name ≡ local_of (reverse (map held l.scopes)) l.name

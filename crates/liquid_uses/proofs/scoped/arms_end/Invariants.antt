use Rattle.std.proofs.Common.{◌≡◌, true, [], ◌∷◌, ◌++◌, drop}
use Rattle.liquid_syntax.specs.Flats.{arm_ends}
use Rattle.liquid_uses.specs.inside.Scopes.{bodies_end}
use Rattle.liquid_uses.proofs.scoped.arms_end.Given as goal

-- where the bodies that are left end as they are said to, all do
abbrev pub invariant-loop-arm : goal.invariant-loop-arm
invariant-loop-arm l =
    bodies_end l.scopes.ends.now l.start (arm_ends (drop l.arm-index l.arms) ++ l.last ∷ []) ≡ true
    → bodies_end l.scopes.ends.now l.next (arm_ends l.arms ++ l.last ∷ []) ≡ true

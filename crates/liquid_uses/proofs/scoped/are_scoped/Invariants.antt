use Rattle.liquid_uses.proofs.Scoping.{ScopedBefore}
use Rattle.liquid_uses.proofs.scoped.are_scoped.Given as goal

-- each node up to here is scoped
abbrev pub invariant-loop-at : goal.invariant-loop-at
invariant-loop-at l = ScopedBefore l.scopes l.at

use Rattle.liquid_uses.proofs.Chains.{SeenSoFar}
use Rattle.liquid_uses.proofs.grants.chain_place.Given as goal

-- what is asked of the value that goes through the filters that are left is asked of the first
abbrev pub invariant-loop-filter : goal.invariant-loop-filter
invariant-loop-filter l = SeenSoFar l.place l.initial.place l.filter-items l.filter-index

use Rattle.std.proofs.Common.{◌≡◌, true, drop}
use Rattle.liquid_model.specs.UseViews.{uses_view}
use Rattle.liquid_uses.specs.inside.OwnGrants.{list_grants}
use Rattle.liquid_uses.proofs.node_grants.nodes_granted.Given as goal

-- where those that are left pass, all do
abbrev pub invariant-loop-node : goal.invariant-loop-node
invariant-loop-node l = list_grants (uses_view l.uses) (drop l.node-index l.nodes) ≡ true → list_grants (uses_view l.uses) l.nodes ≡ true

use Rattle.std.proofs.Common.{◌≡◌, ◌++◌, drop}
use Rattle.liquid_warnings.specs.Remarks.{all_said}
use Rattle.liquid_warnings.specs.Warnings.{nodes_said}
use Rattle.liquid_warnings.proofs.warnings.node_warnings.Given as goal

-- what is said and the warnings of the nodes that are left are all
abbrev pub invariant-loop-place : goal.invariant-loop-place
invariant-loop-place l = nodes_said l.written_for 0 l.nodes l.positions
    ≡ all_said l.remarks.items ++ nodes_said l.written_for l.place (drop l.place l.nodes) l.positions

use Rattle.std.proofs.Common.{◌≡◌}
use Rattle.std.proofs.Math.ListN.{drop}
use Rattle.liquid_warnings.specs.Silent.{is_filtered_at}
use Rattle.liquid_warnings.proofs.silent.is_filtered_at.Given as goal

-- what is left decides
abbrev pub invariant-loop-place : goal.invariant-loop-place
invariant-loop-place l = is_filtered_at l.remark.line l.remark.column l.fn.nodes l.fn.positions
    ≡ is_filtered_at l.remark.line l.remark.column (drop l.place l.fn.nodes) (drop l.place l.fn.positions)

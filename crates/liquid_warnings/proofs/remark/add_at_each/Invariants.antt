use Rattle.std.proofs.Common.{◌≡◌, ◌++◌, drop}
use Rattle.liquid_warnings.specs.Remarks.{all_said}
use Rattle.liquid_warnings.specs.inside.Added.{said_at_each}
use Rattle.liquid_warnings.proofs.remark.add_at_each.Given as goal

-- what is said so far and the places that are left make all
abbrev pub invariant-loop-place : goal.invariant-loop-place
invariant-loop-place l = all_said l.fn.remarks.items ++ said_at_each l.kind l.message l.places
    ≡ all_said l.remarks.items ++ said_at_each l.kind l.message (drop l.place-index l.places)

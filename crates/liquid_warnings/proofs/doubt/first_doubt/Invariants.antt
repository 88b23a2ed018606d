use Rattle.std.proofs.Common.{◌≡◌, drop, map}
use Rattle.liquid_model.specs.View.{view}
use Rattle.liquid_warnings.specs.Doubts.{first_doubt}
use Rattle.liquid_warnings.proofs.doubt.first_doubt.Given as goal

-- the values that are left decide as all of them do
abbrev pub invariant-loop-value : goal.invariant-loop-value
invariant-loop-value l =
    first_doubt l.want (map (λ r. view r.now) l.values)
    ≡ first_doubt l.want (map (λ r. view r.now) (drop l.value-index l.values))

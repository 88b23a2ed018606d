use Rattle.std.proofs.Common.{◌≡◌, drop}
use Rattle.liquid_warnings.specs.Slips.{first_slip}
use Rattle.liquid_warnings.proofs.slips.first_slip.Given as goal

-- the expressions that are left decide as all of them do
abbrev pub invariant-loop-expression : goal.invariant-loop-expression
invariant-loop-expression l = first_slip l.expressions ≡ first_slip (drop l.expression-index l.expressions)

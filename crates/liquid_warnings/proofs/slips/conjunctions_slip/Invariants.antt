use Rattle.std.proofs.Common.{◌≡◌, drop}
use Rattle.liquid_warnings.specs.Slips.{conjunctions_slip}
use Rattle.liquid_warnings.proofs.slips.conjunctions_slip.Given as goal

-- the conjunctions that are left decide as all of them do
abbrev pub invariant-loop-atoms : goal.invariant-loop-atoms
invariant-loop-atoms l = conjunctions_slip l.conjunctions ≡ conjunctions_slip (drop l.atoms-index l.conjunctions)

use Rattle.std.proofs.Common.{◌≡◌, drop}
use Rattle.liquid_warnings.specs.Slips.{atoms_slip}
use Rattle.liquid_warnings.proofs.slips.atoms_slip.Given as goal

-- the atoms that are left decide as all of them do
abbrev pub invariant-loop-atom : goal.invariant-loop-atom
invariant-loop-atom l = atoms_slip l.atoms ≡ atoms_slip (drop l.atom-index l.atoms)

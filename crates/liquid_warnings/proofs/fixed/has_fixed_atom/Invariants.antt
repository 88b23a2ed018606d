use Rattle.std.proofs.Common.{◌≡◌, false, take}
use Rattle.std.specs.List.{list_any}
use Rattle.liquid_warnings.specs.Fixed.{is_fixed_atom}
use Rattle.liquid_warnings.proofs.fixed.has_fixed_atom.Given as goal

abbrev pub invariant-loop-atom : goal.invariant-loop-atom
invariant-loop-atom l = list_any is_fixed_atom (take l.atom-index l.atoms) ≡ false

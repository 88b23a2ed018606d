use Rattle.std.proofs.Common.{◌≡◌, false, take}
use Rattle.std.specs.List.{list_any}
use Rattle.liquid_warnings.specs.Fixed.{has_fixed_atom}
use Rattle.liquid_warnings.proofs.fixed.is_fixed.Given as goal

abbrev pub invariant-loop-atoms : goal.invariant-loop-atoms
invariant-loop-atoms l = list_any has_fixed_atom (take l.atoms-index l.conjunctions) ≡ false

use Rattle.std.proofs.Common.{◌≡◌, false, take}
use Rattle.std.specs.List.{list_any}
use Rattle.liquid_warnings.specs.Nodes.{has_sure_atom}
use Rattle.liquid_warnings.proofs.truths.is_sure.Given as goal

abbrev pub invariant-loop-atoms : goal.invariant-loop-atoms
invariant-loop-atoms l = list_any has_sure_atom (take l.atoms-index l.conjunctions) ≡ false

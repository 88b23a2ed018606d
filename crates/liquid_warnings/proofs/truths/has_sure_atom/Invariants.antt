use Rattle.std.proofs.Common.{◌≡◌, false, take}
use Rattle.std.specs.List.{list_any}
use Rattle.liquid_warnings.specs.Nodes.{is_sure_atom}
use Rattle.liquid_warnings.proofs.truths.has_sure_atom.Given as goal

abbrev pub invariant-loop-atom : goal.invariant-loop-atom
invariant-loop-atom l = list_any is_sure_atom (take l.atom-index l.atoms) ≡ false

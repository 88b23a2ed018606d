use Rattle.std.proofs.Common.{◌≡◌, ℕ, List, ◌++◌, codes, drop, map}
use Rattle.std.specs.Fmt.{HasWritten, IsPlainFormatter}
use denote.Shadow.{shadow}
use denote.Text.{Utf8}
use Rattle.liquid_evaluation.specs.ConditionView.{atom_view}
use Rattle.liquid_evaluation.specs.WrittenConditions.{written_atom, written_conjunction}
use Rattle.liquid_evaluation.proofs.WrittenJoins.{joined_from}
use Rattle.liquid_evaluation.proofs.condition.write_atoms.Given as goal

-- what was written and what is left make the whole
abbrev pub invariant-loop-atom : goal.invariant-loop-atom
invariant-loop-atom g l = record {
  text : shadow (Utf8 l.join);
  written : IsPlainFormatter l.initial.f → (done : List ℕ) × HasWritten g.W.Write.write_str_gives l.initial.f done l.f
      × (done ++ joined_from l.join written_atom (codes " and ") (map atom_view (drop l.atom-index l.atoms.items)) ≡ written_conjunction (map atom_view l.atoms.items));
}

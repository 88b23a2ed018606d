use Rattle.std.proofs.Common.{◌≡◌, ℕ, List, ◌++◌, codes, drop, map}
use Rattle.std.specs.Fmt.{HasWritten, IsPlainFormatter}
use denote.Shadow.{shadow}
use denote.Text.{Utf8}
use Rattle.liquid_evaluation.specs.ConditionView.{atoms_view}
use Rattle.liquid_evaluation.specs.WrittenConditions.{written_conjunction, written_condition}
use Rattle.liquid_evaluation.proofs.WrittenJoins.{joined_from}
use Rattle.liquid_evaluation.proofs.condition.write_conjunctions.Given as goal

-- what was written and what is left make the whole
abbrev pub invariant-loop-conjunction : goal.invariant-loop-conjunction
invariant-loop-conjunction g l = record {
  text : shadow (Utf8 l.join);
  written : IsPlainFormatter l.initial.f → (done : List ℕ) × HasWritten g.W.Write.write_str_gives l.initial.f done l.f
      × (done ++ joined_from l.join written_conjunction (codes " or ") (map atoms_view (drop l.conjunction-index l.conjunctions.items)) ≡ written_condition (map atoms_view l.conjunctions.items));
}

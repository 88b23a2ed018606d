use Rattle.std.proofs.Common.{rules, arith, ◌≡◌, [], ◌∷◌, ◌++◌, ◌+◌, codes, drop, get_or, map, sym, ap, ◌∙◌}
use Rattle.std.proofs.Output.{has_written_append}
use Rattle.std.proofs.lemmas.List.{drop_more}
use Rattle.liquid_evaluation.specs.ConditionView.{atoms_view}
use Rattle.liquid_evaluation.specs.WrittenConditions.{written_conjunction}
use Rattle.liquid_evaluation.proofs.WrittenJoins.{from_nothing, one_text_more}
use Rattle.liquid_evaluation.proofs.condition.write_conjunctions.Goals as goal

pub loop-conjunction-init : goal.loop-conjunction-init
loop-conjunction-init g c = record {
  text = search rules;
  written = λ plain. ([], record { wrote = search rules; plain = plain }, from_nothing written_conjunction (codes " or ") (map atoms_view c.args.conjunctions.now.items));
}

pub loop-conjunction-preserved : goal.loop-conjunction-preserved
loop-conjunction-preserved g c =
    let xs = c.args.conjunctions.now.items in
    let i = c.loop-conjunction.conjunction-index in
    let x = c.conjunction-item.result in
    let at : x ≡ get_or xs i x = search rules in
    let next : drop i xs ≡ x ∷ drop (i + 1) xs = drop_more xs i x (omega (arith, c.loop-conjunction-test.true)) ∙ ap (λ z. z ∷ drop (i + 1) xs) (sym at) in
    record {
      text = search rules;
      written = λ plain.
          let before = c.loop-conjunction.invariant.written plain in
          let one = c.in_ok-write_str.ensures.writes before.1.plain (search rules) in
          let two = c.in_ok-write_atoms.ensures one.plain (search rules) in (
            (before.0 ++ c.loop-conjunction.join.now) ++ written_conjunction (atoms_view x),
            has_written_append _ _ _ _ _ _ (has_written_append _ _ _ _ _ _ before.1 one) two,
            one_text_more atoms_view written_conjunction (codes " or ") c.loop-conjunction.join.now before.0 _ xs i x next before.2,
          );
    }

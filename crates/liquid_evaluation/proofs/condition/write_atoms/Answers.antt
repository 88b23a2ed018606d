use Rattle.std.proofs.Common.{rules, arith, ◌≡◌, [], ◌∷◌, ◌++◌, ◌+◌, codes, drop, get_or, map, sym, ap, ◌∙◌}
use Rattle.std.proofs.Output.{has_written_append}
use Rattle.std.proofs.lemmas.List.{drop_more}
use Rattle.liquid_evaluation.specs.ConditionView.{atom_view}
use Rattle.liquid_evaluation.specs.WrittenConditions.{written_atom}
use Rattle.liquid_evaluation.proofs.WrittenJoins.{from_nothing, one_text_more}
use Rattle.liquid_evaluation.proofs.condition.write_atoms.Goals as goal

pub loop-atom-init : goal.loop-atom-init
loop-atom-init g c = record {
  text = search rules;
  written = λ plain. ([], record { wrote = search rules; plain = plain }, from_nothing written_atom (codes " and ") (map atom_view c.args.atoms.now.items));
}

pub loop-atom-preserved : goal.loop-atom-preserved
loop-atom-preserved g c =
    let xs = c.args.atoms.now.items in
    let i = c.loop-atom.atom-index in
    let x = c.atom-item.result in
    let at : x ≡ get_or xs i x = search rules in
    let next : drop i xs ≡ x ∷ drop (i + 1) xs = drop_more xs i x (omega (arith, c.loop-atom-test.true)) ∙ ap (λ z. z ∷ drop (i + 1) xs) (sym at) in
    record {
      text = search rules;
      written = λ plain.
          let before = c.loop-atom.invariant.written plain in
          let one = c.in_ok-write_str.ensures.writes before.1.plain (search rules) in
          let two = c.in_ok-write.ensures.writes one.plain (search rules) in (
            (before.0 ++ c.loop-atom.join.now) ++ written_atom (atom_view x),
            has_written_append _ _ _ _ _ _ (has_written_append _ _ _ _ _ _ before.1 one) two,
            one_text_more atom_view written_atom (codes " and ") c.loop-atom.join.now before.0 _ xs i x next before.2,
          );
    }

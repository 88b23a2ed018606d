use Rattle.std.proofs.Common.{[], ◌∷◌, ◌++◌, sym, ap, ◌∙◌, arith, map}
use Rattle.std.proofs.lemmas.List.{map-append}
use Rattle.liquid_parser.specs.inside.ConditionAnswers.{before_alternatives}
use Rattle.liquid_parser.specs.ConditionReading.{condition_of, alternatives_of}
use Rattle.liquid_evaluation.specs.ConditionView.{atom_view}
use Rattle.liquid_lexer.specs.Tokens.{tokens_view}
use Rattle.liquid_parser.proofs.ConditionTurns.{atoms_then, atoms_nothing, one_atom_more, last_atom}
use Rattle.liquid_parser.proofs.condition_items.read_conjunction.Goals as goal

pub atoms-init : goal.atoms-init
atoms-init c = record {
  taken = atoms_nothing _ ∙ ap (λ atoms. atoms_then (map atom_view atoms) (condition_of (tokens_view c.args.items.now.items))) (sym c.in_ok-atoms.ensures.items);
  shorter = omega arith;
}

pub returns-then-not-skip_word-clause-taken : goal.returns-then-not-skip_word-clause-taken
returns-then-not-skip_word-clause-taken c =
    let e = c.if-not-skip_word.ensures in
    let before = map atom_view c.atoms.atoms.items in
    let atom = atom_view c.in_ok-atom.atom in
    c.atoms.invariant.taken
    ∙ last_atom before atom (tokens_view c.atoms.items.items) (tokens_view c.read_atom.new.items.items) c.in_ok-atom.ensures.taken e.0
    ∙ ap (λ is. before_alternatives (before ++ (atom ∷ [])) (alternatives_of (tokens_view is))) (sym e.1)
    ∙ ap (λ atoms. before_alternatives atoms (alternatives_of (tokens_view c.skip_word.new.items.items))) (sym (ap (map atom_view) c.in_ok-push.ensures.items ∙ map-append _ _ _))

pub atoms-preserved : goal.atoms-preserved
atoms-preserved c =
    let e = c.if-not-skip_word.ensures in
    let before = map atom_view c.atoms.atoms.items in
    let atom = atom_view c.in_ok-atom.atom in
    let left = tokens_view c.skip_word.new.items.items in
    record {
      taken = c.atoms.invariant.taken
          ∙ one_atom_more before atom (tokens_view c.atoms.items.items) (tokens_view c.read_atom.new.items.items) c.in_ok-atom.ensures.taken left e.0
          ∙ ap (λ atoms. atoms_then atoms (condition_of left)) (sym (ap (map atom_view) c.in_ok-push.ensures.items ∙ map-append _ _ _));
      shorter = omega (arith, c.atoms.invariant.shorter, e.1, c.in_ok-atom.ensures.shorter);
    }

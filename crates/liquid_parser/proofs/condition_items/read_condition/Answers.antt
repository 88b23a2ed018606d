use Rattle.std.proofs.Common.{Some, sym, ap, ◌∙◌, map}
use Rattle.std.proofs.lemmas.List.{map-append}
use Rattle.liquid_parser.specs.ConditionReading.{condition_of}
use Rattle.liquid_evaluation.specs.ConditionView.{atoms_view}
use Rattle.liquid_lexer.specs.Tokens.{tokens_view}
use Rattle.liquid_parser.proofs.ChainCalls.{left_over, none_left, faulted}
use Rattle.liquid_parser.proofs.ConditionTurns.{conjunctions_then, one_conjunction_more, no_or, last_conjunction}
use Rattle.liquid_parser.proofs.condition_items.read_condition.Goals as goal

pub returns-then-is_over-clause-condition : goal.returns-then-is_over-clause-condition
returns-then-is_over-clause-condition c =
    c.conjunctions.invariant
    ∙ last_conjunction (map atoms_view c.conjunctions.conjunctions.items) (atoms_view c.in_ok-conjunction.conjunction) (tokens_view c.conjunctions.items.items) (tokens_view c.read_conjunction.new.items.items) c.in_ok-conjunction.ensures.taken
    (none_left c.read_conjunction.new.items.items (sym c.is_over.ensures ∙ c.if-is_over.true))
    ∙ ap Some (sym (ap (map atoms_view) c.in_ok-push.ensures.items ∙ map-append _ _ _))

pub returns-then-not-skip_word-clause-condition : goal.returns-then-not-skip_word-clause-condition
returns-then-not-skip_word-clause-condition c =
    let some = left_over c.read_conjunction.new.items.items (sym c.is_over.ensures ∙ c.if-is_over.false) in
    faulted c.expected_before.result _ (
    c.conjunctions.invariant
    ∙ no_or (map atoms_view c.conjunctions.conjunctions.items) (atoms_view c.in_ok-conjunction.conjunction) (tokens_view c.conjunctions.items.items) (tokens_view c.read_conjunction.new.items.items) c.in_ok-conjunction.ensures.taken some
    c.if-not-skip_word.ensures.0)

pub conjunctions-preserved : goal.conjunctions-preserved
conjunctions-preserved c =
    let left = tokens_view c.skip_word.new.items.items in
    c.conjunctions.invariant
    ∙ one_conjunction_more (map atoms_view c.conjunctions.conjunctions.items) (atoms_view c.in_ok-conjunction.conjunction) (tokens_view c.conjunctions.items.items) (tokens_view c.read_conjunction.new.items.items) c.in_ok-conjunction.ensures.taken left
    c.if-not-skip_word.ensures.0
    ∙ ap (λ cs. conjunctions_then cs (condition_of left)) (sym (ap (map atoms_view) c.in_ok-push.ensures.items ∙ map-append _ _ _))

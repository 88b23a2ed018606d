use Rattle.std.proofs.Common.{sym, ap, ◌∙◌, map, Some}
use Rattle.std.proofs.lemmas.List.{map-append, append-nil}
use Rattle.liquid_lexer.specs.Tokens.{tokens_view}
use Rattle.liquid_parser.specs.Bound.{ends_pairs, one_first, bound_pairs}
use Rattle.liquid_syntax.specs.Flats.{binding_view, bindings_view}
use Rattle.liquid_parser.proofs.ChainCalls.{faulted}
use Rattle.liquid_parser.proofs.ItemLaws.{one_shorter}
use Rattle.liquid_parser.proofs.Repetition.{after_is, after_those, last_loop, more_loop, stuck_loop}
use Rattle.liquid_parser.proofs.pair_items.read_pairs.Goals as goal

pub pairs-init : goal.pairs-init
pairs-init c = after_is (bindings_view c.args.first.items) (bound_pairs c.args.style (tokens_view c.args.items.items))

pub returns-in_default-clause-pairs : goal.returns-in_default-clause-pairs
returns-in_default-clause-pairs c =
    let s = c.args.style in
    let l = c.pairs in
    faulted c.expected_before.result _ (
    l.invariant ∙ stuck_loop (one_first s) (ends_pairs s) (one_shorter s) (bindings_view l.pairs.items) (tokens_view l.items.items) (sym c.ends_pairs.ensures ∙ c.pairs-test.true) (sym c.in_default.ensures.value))

pub pairs-preserved : goal.pairs-preserved
pairs-preserved c =
    let s = c.args.style in
    let l = c.pairs in
    let left = tokens_view c.next_of.new.items.items in
    l.invariant
    ∙ more_loop (one_first s) (ends_pairs s) (one_shorter s) (bindings_view l.pairs.items) (tokens_view l.items.items) (binding_view c.in-Some.pair) left (sym c.ends_pairs.ensures ∙ c.pairs-test.true) (sym c.in-Some.ensures.value)
    ∙ ap (λ ps. after_those ps (bound_pairs s left)) (sym (ap (map binding_view) c.in_ok-push.ensures.items ∙ map-append _ _ _))

pub returns-clause-pairs : goal.returns-clause-pairs
returns-clause-pairs c =
    let s = c.args.style in
    let l = c.pairs in
    l.invariant
    ∙ last_loop (one_first s) (ends_pairs s) (one_shorter s) (bindings_view l.pairs.items) (tokens_view l.items.items) (sym c.ends_pairs.ensures ∙ c.pairs-test.false)
    ∙ ap Some (append-nil (bindings_view l.pairs.items))

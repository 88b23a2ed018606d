use Rattle.std.proofs.Common.{◌≡◌, Ok, Err, string_bytes, ◌+◌, ◌++◌, ◌∷◌, [], drop, ap, sym, subst, ◌∙◌, rules}
use Rattle.std.specs.Fmt.{signed_decimal}
use mir.Val.{to_z, of_z}
use mir.Syntax.{w64}
use Rattle.std.proofs.lemmas.List.{drop_more, drop_all}
use Rattle.std.proofs.lemmas.Result.{err_from_is_err_and}
use Rattle.liquid_model.specs.Data.{number, text_of, items_text, pairs_text}
use Rattle.liquid_model.specs.View.{view, items_view, pairs_view}
use Rattle.liquid_engine.specs.Performs.{WritesText}
use Rattle.liquid_engine.specs.Sinks.{sink_of}
use Rattle.liquid_engine.proofs.Reserves.{less_then, no_less}
use Rattle.liquid_engine.proofs.Pieces.{GoesOn, writes_as, goes_on, goes_wrong, goes_to_end, next_pair, writes_nothing}
use Rattle.liquid_engine.proofs.ValueTexts.{nil_text, truth_text, number_text, text_text, array_text, object_text}
use Rattle.liquid_engine.proofs.push_value.+push_value.Goals as goal

pub push_value-returns-in-Nil-clause-writes : goal.push_value-returns-in-Nil-clause-writes
push_value-returns-in-Nil-clause-writes g t c =
    let here = sink_of g.W.CountedWrite.contents g.W.CountedWrite.failure_count c.args.out.now in
    writes_as (Ok tt) [] (text_of (view c.args.value.now)) here here (nil_text c.args.value.now c.in-Nil.is) (writes_nothing tt here)

pub push_value-returns-in-Bool-clause-writes : goal.push_value-returns-in-Bool-clause-writes
push_value-returns-in-Bool-clause-writes g t c =
    writes_as c.push_text.result _ _ _ _ (c.truth_text.ensures ∙ truth_text c.args.value.now c.in-Bool.truth c.in-Bool.is) c.push_text.ensures.writes

pub push_value-returns-in-Integer-clause-writes : goal.push_value-returns-in-Integer-clause-writes
push_value-returns-in-Integer-clause-writes g t c =
    let said : signed_decimal (to_z w64 (of_z w64 c.in-Integer.n)) ≡ text_of (number c.in-Integer.n) = search rules in
    writes_as c.push_number.result _ _ _ _ (said ∙ number_text c.args.value.now c.in-Integer.n c.in-Integer.is) c.push_number.ensures.writes

pub push_value-returns-in-Text-clause-writes : goal.push_value-returns-in-Text-clause-writes
push_value-returns-in-Text-clause-writes g t c =
    writes_as c.push_text-in-Text.result _ _ _ _ (c.as_str.ensures.value ∙ text_text c.args.value.now c.in-Text.text c.in-Text.is) c.push_text-in-Text.ensures.writes

pub push_value-returns-in-Array-clause-writes : goal.push_value-returns-in-Array-clause-writes
push_value-returns-in-Array-clause-writes g t c = writes_as c.push_items.result _ _ _ _ (array_text c.args.value.now c.in-Array.items c.in-Array.is) c.push_items.ensures.writes

pub push_value-returns-in-Object-clause-writes : goal.push_value-returns-in-Object-clause-writes
push_value-returns-in-Object-clause-writes g t c = writes_as c.push_pairs.result _ _ _ _ (object_text c.args.value.now c.in-Object.pairs c.in-Object.is) c.push_pairs.ensures.writes

-- items
pub push_items-returns-in_err-push_value-clause-writes : goal.push_items-returns-in_err-push_value-clause-writes
push_items-returns-in_err-push_value-clause-writes g t c =
    let p = err_from_is_err_and c.from_residual.result c.from_residual.ensures.1 in
    let sink = sink_of g.W.CountedWrite.contents g.W.CountedWrite.failure_count in
    let items = c.deref-item-items.result.now in
    let i = c.loop-item.item-index in
    let item = c.item-item.result in
    let rest : drop i items ≡ item ∷ drop (i + 1) items = drop_more items i item c.loop-item-test.true ∙ ap (λ x. x ∷ drop (i + 1) items) (sym c.item-item.is) in
    let wrong = goes_wrong c.in_err-push_value.field-0.0 (text_of (view item)) (items_text (items_view (drop (i + 1) items))) (items_text (items_view items)) (sink c.args.out.now) (sink c.loop-item.out) (sink c.push_value.new.out)
    (subst (λ xs. GoesOn (items_text (items_view xs)) (sink c.loop-item.out) (items_text (items_view items)) (sink c.args.out.now)) rest c.loop-item.invariant.writes)
    c.in_err-push_value.ensures.writes in
    rw (p.1, p.2) (subst (λ xs. WritesText (Err c.in_err-push_value.field-0.0) (items_text (items_view xs)) (sink c.args.out.now) (sink c.push_value.new.out)) c.deref-item-items.ensures.value wrong)

pub push_items-loop-item-preserved : goal.push_items-loop-item-preserved
push_items-loop-item-preserved g t c =
    let sink = sink_of g.W.CountedWrite.contents g.W.CountedWrite.failure_count in
    let items = c.deref-item-items.result.now in
    let i = c.loop-item.item-index in
    let item = c.item-item.result in
    let rest : drop i items ≡ item ∷ drop (i + 1) items = drop_more items i item c.loop-item-test.true ∙ ap (λ x. x ∷ drop (i + 1) items) (sym c.item-item.is) in
    record {
      writes = goes_on c.in_ok-push_value.field-0 (text_of (view item)) (items_text (items_view (drop (i + 1) items))) (items_text (items_view items)) (sink c.args.out.now) (sink c.loop-item.out) (sink c.push_value.new.out)
          (subst (λ xs. GoesOn (items_text (items_view xs)) (sink c.loop-item.out) (items_text (items_view items)) (sink c.args.out.now)) rest c.loop-item.invariant.writes)
          c.in_ok-push_value.ensures.writes;
      same_writer = search rules;
      bounded = less_then c.push_value.ensures.bounded c.loop-item.invariant.bounded;
      limited = search rules;
    }

pub push_items-returns-clause-writes : goal.push_items-returns-clause-writes
push_items-returns-clause-writes g t c =
    let sink = sink_of g.W.CountedWrite.contents g.W.CountedWrite.failure_count in
    let items = c.deref-item-items.result.now in
    let none : items_text (items_view (drop c.loop-item.item-index items)) ≡ [] = ap (λ xs. items_text (items_view xs)) (drop_all c.loop-item.item-index items c.loop-item-test.false) in
    subst (λ xs. WritesText _ (items_text (items_view xs)) (sink c.args.out.now) (sink c.loop-item.out)) c.deref-item-items.ensures.value
    (goes_to_end tt _ _ (sink c.args.out.now) (sink c.loop-item.out) none c.loop-item.invariant.writes)

pub push_pairs-returns-in_err-push_text-clause-writes : goal.push_pairs-returns-in_err-push_text-clause-writes
push_pairs-returns-in_err-push_text-clause-writes g t c =
    let p = err_from_is_err_and c.from_residual.result c.from_residual.ensures.1 in
    let sink = sink_of g.W.CountedWrite.contents g.W.CountedWrite.failure_count in
    let rest : c.loop-key.key-iterator ≡ (c.in-Some.key.now, c.in-Some.value.now) ∷ c.next.new.self = search rules in
    let all : c.into_iter-key-iterator.result ≡ c.args.pairs.now.entries = search rules in
    let key : c.as_str.result.now ≡ string_bytes c.in-Some.key.now = c.as_str.ensures.value in
    let x = c.in_err-push_text.field-0.0 in
    rw (p.1, p.2) (subst (λ es. WritesText (Err x) (pairs_text (pairs_view es)) (sink c.args.out.now) (sink c.push_text.new.self)) all
    (goes_wrong x (string_bytes c.in-Some.key.now) (text_of (view c.in-Some.value.now) ++ pairs_text (pairs_view c.next.new.self)) _ _ (sink c.loop-key.out) _
    (next_pair _ c.in-Some.key.now c.in-Some.value.now c.next.new.self _ _ (sink c.loop-key.out) rest c.loop-key.invariant.writes)
    (writes_as (Err x) _ _ _ _ key c.in_err-push_text.ensures.writes)))

pub push_pairs-loop-key-preserved : goal.push_pairs-loop-key-preserved
push_pairs-loop-key-preserved g t c =
    let sink = sink_of g.W.CountedWrite.contents g.W.CountedWrite.failure_count in
    let rest : c.loop-key.key-iterator ≡ (c.in-Some.key.now, c.in-Some.value.now) ∷ c.next.new.self = search rules in
    let key : c.as_str.result.now ≡ string_bytes c.in-Some.key.now = c.as_str.ensures.value in
    record {
      writes = goes_on c.in_ok-push_value.field-0 (text_of (view c.in-Some.value.now)) (pairs_text (pairs_view c.next.new.self)) _ _ (sink c.push_text.new.self) (sink c.push_value.new.out)
          (goes_on c.in_ok-push_text.field-0 (string_bytes c.in-Some.key.now) (text_of (view c.in-Some.value.now) ++ pairs_text (pairs_view c.next.new.self)) _ _ (sink c.loop-key.out) (sink c.push_text.new.self)
          (next_pair _ c.in-Some.key.now c.in-Some.value.now c.next.new.self _ _ (sink c.loop-key.out) rest c.loop-key.invariant.writes)
          (writes_as (Ok c.in_ok-push_text.field-0) _ _ _ _ key c.in_ok-push_text.ensures.writes))
          c.in_ok-push_value.ensures.writes;
      same_writer = search rules;
      bounded = less_then c.push_value.ensures.bounded (less_then c.push_text.ensures.bounded c.loop-key.invariant.bounded);
      limited = search rules;
    }

pub push_pairs-returns-in_err-push_value-clause-writes : goal.push_pairs-returns-in_err-push_value-clause-writes
push_pairs-returns-in_err-push_value-clause-writes g t c =
    let p = err_from_is_err_and c.from_residual-in_err-push_value.result c.from_residual-in_err-push_value.ensures.1 in
    let sink = sink_of g.W.CountedWrite.contents g.W.CountedWrite.failure_count in
    let rest : c.loop-key.key-iterator ≡ (c.in-Some.key.now, c.in-Some.value.now) ∷ c.next.new.self = search rules in
    let all : c.into_iter-key-iterator.result ≡ c.args.pairs.now.entries = search rules in
    let key : c.as_str.result.now ≡ string_bytes c.in-Some.key.now = c.as_str.ensures.value in
    let x = c.in_err-push_value.field-0.0 in
    rw (p.1, p.2) (subst (λ es. WritesText (Err x) (pairs_text (pairs_view es)) (sink c.args.out.now) (sink c.push_value.new.out)) all
    (goes_wrong x (text_of (view c.in-Some.value.now)) (pairs_text (pairs_view c.next.new.self)) _ _ (sink c.push_text.new.self) _
    (goes_on c.in_ok-push_text.field-0 (string_bytes c.in-Some.key.now) (text_of (view c.in-Some.value.now) ++ pairs_text (pairs_view c.next.new.self)) _ _ (sink c.loop-key.out) (sink c.push_text.new.self)
    (next_pair _ c.in-Some.key.now c.in-Some.value.now c.next.new.self _ _ (sink c.loop-key.out) rest c.loop-key.invariant.writes)
    (writes_as (Ok c.in_ok-push_text.field-0) _ _ _ _ key c.in_ok-push_text.ensures.writes))
    c.in_err-push_value.ensures.writes))

pub push_pairs-returns-clause-writes : goal.push_pairs-returns-clause-writes
push_pairs-returns-clause-writes g t c =
    let sink = sink_of g.W.CountedWrite.contents g.W.CountedWrite.failure_count in
    let none : c.loop-key.key-iterator ≡ [] = search rules in
    let all : c.into_iter-key-iterator.result ≡ c.args.pairs.now.entries = search rules in
    subst (λ es. WritesText _ (pairs_text (pairs_view es)) (sink c.args.out.now) (sink c.loop-key.out)) all
    (goes_to_end tt _ _ (sink c.args.out.now) (sink c.loop-key.out) (ap (λ es. pairs_text (pairs_view es)) none) c.loop-key.invariant.writes)

pub push_value-returns-in-Nil-clause-bounded : goal.push_value-returns-in-Nil-clause-bounded
push_value-returns-in-Nil-clause-bounded g t c = no_less

pub push_value-returns-in-Bool-clause-bounded : goal.push_value-returns-in-Bool-clause-bounded
push_value-returns-in-Bool-clause-bounded g t c = c.push_text.ensures.bounded

pub push_value-returns-in-Integer-clause-bounded : goal.push_value-returns-in-Integer-clause-bounded
push_value-returns-in-Integer-clause-bounded g t c = c.push_number.ensures.bounded

pub push_value-returns-in-Text-clause-bounded : goal.push_value-returns-in-Text-clause-bounded
push_value-returns-in-Text-clause-bounded g t c = c.push_text-in-Text.ensures.bounded

pub push_value-returns-in-Array-clause-bounded : goal.push_value-returns-in-Array-clause-bounded
push_value-returns-in-Array-clause-bounded g t c = c.push_items.ensures.bounded

pub push_value-returns-in-Object-clause-bounded : goal.push_value-returns-in-Object-clause-bounded
push_value-returns-in-Object-clause-bounded g t c = c.push_pairs.ensures.bounded

pub push_items-returns-in_err-push_value-clause-bounded : goal.push_items-returns-in_err-push_value-clause-bounded
push_items-returns-in_err-push_value-clause-bounded g t c = less_then c.push_value.ensures.bounded c.loop-item.invariant.bounded

pub push_items-returns-clause-bounded : goal.push_items-returns-clause-bounded
push_items-returns-clause-bounded g t c = c.loop-item.invariant.bounded

pub push_pairs-returns-in_err-push_text-clause-bounded : goal.push_pairs-returns-in_err-push_text-clause-bounded
push_pairs-returns-in_err-push_text-clause-bounded g t c = less_then c.push_text.ensures.bounded c.loop-key.invariant.bounded

pub push_pairs-returns-in_err-push_value-clause-bounded : goal.push_pairs-returns-in_err-push_value-clause-bounded
push_pairs-returns-in_err-push_value-clause-bounded g t c = less_then c.push_value.ensures.bounded (less_then c.push_text.ensures.bounded c.loop-key.invariant.bounded)

pub push_pairs-returns-clause-bounded : goal.push_pairs-returns-clause-bounded
push_pairs-returns-clause-bounded g t c = c.loop-key.invariant.bounded

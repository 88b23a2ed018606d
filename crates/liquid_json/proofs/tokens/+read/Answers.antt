use Rattle.std.proofs.Common.{◌≡◌, ◌-◌, ◌<◌, [], ◌∷◌, length, Some, None, sym, ap, ap₂, ◌∙◌, arith}
use Rattle.std.proofs.lemmas.Result.{IfOk-weaker}
use Rattle.json.specs.Json.{parse_map, after_end_array, read_key, items, members, value}
use Rattle.json.specs.Reads.{token_of}
use Rattle.json.proofs.Grammar.{value_is, value-begin_array, value-begin_object, read_key-shorter}
use Rattle.serde_json.specs.Read.{converted}
use Rattle.liquid_model.specs.Data.{array, object, put}
use Rattle.liquid_model.specs.View.{view, pairs_view}
use Rattle.liquid_model.proofs.Views.{view-Array, view-Object}
use Rattle.liquid_json.specs.inside.Tokens.{datum_of, token_pairs, datum_at, list_items_at}
use Rattle.liquid_json.proofs.After.{after, after_none}
use Rattle.liquid_json.proofs.ScalarTokens.{scalar_read, scalar_refused, begins_array, begins_object}
use Rattle.liquid_json.proofs.Turns.{converted-array, converted-object, item_read, item_refused, items_over, pair_read, pair_refused, key_refused, pairs_over, none_before, one_more_item}
use Rattle.liquid_json.proofs.tokens.+read.Goals as goal

pub read-returns-in_default-token-clause-ok : goal.read-returns-in_default-token-clause-ok
read-returns-in_default-token-clause-ok t c =
    let first : c.args.reader.now ≡ token_of c.in-Some.token ∷ c.next.new.self = grind arith in
    IfOk-weaker c.scalar.result _ _ (λ v e. ap (datum_at c.args.numbers c.args.depth) first ∙ scalar_read c.args.numbers c.args.depth (token_of c.in-Some.token) _ (view v) e) c.scalar.ensures.ok

pub read-returns-in_default-clause-err : goal.read-returns-in_default-clause-err
read-returns-in_default-clause-err t c refused =
    let empty : c.args.reader.now ≡ [] = grind arith in
    ap (datum_at c.args.numbers c.args.depth) empty ∙ ap (converted (datum_of c.args.numbers)) (value_is c.args.depth [])

pub read-returns-in_default-token-clause-err : goal.read-returns-in_default-token-clause-err
read-returns-in_default-token-clause-err t c refused =
    let first : c.args.reader.now ≡ token_of c.in-Some.token ∷ c.next.new.self = grind arith in
    ap (datum_at c.args.numbers c.args.depth) first ∙ scalar_refused c.args.numbers c.args.depth (token_of c.in-Some.token) c.next.new.self (λ e. c.in_default-token.not-BeginArray (begins_array _ e)) (λ e. c.in_default-token.not-BeginObject (begins_object _ e)) (c.scalar.ensures.err (grind arith))

pub read-returns-then-depth-eq0-clause-err : goal.read-returns-then-depth-eq0-clause-err
unfolding value
read-returns-then-depth-eq0-clause-err t c refused =
    let first : c.args.reader.now ≡ token_of c.in-Some.token ∷ c.next.new.self = grind arith in
    let none : c.args.depth ≡ 0 = omega arith in
    ap (converted (datum_of c.args.numbers)) (ap₂ value none (first ∙ ap (λ k. token_of k ∷ c.next.new.self) c.in-BeginArray.is))

pub read-returns-then-depth-eq0-2-clause-err : goal.read-returns-then-depth-eq0-2-clause-err
unfolding value
read-returns-then-depth-eq0-2-clause-err t c refused =
    let first : c.args.reader.now ≡ token_of c.in-Some.token ∷ c.next.new.self = grind arith in
    let none : c.args.depth ≡ 0 = omega arith in
    ap (converted (datum_of c.args.numbers)) (ap₂ value none (first ∙ ap (λ k. token_of k ∷ c.next.new.self) c.in-BeginObject.is))

pub read-returns-in_err-read_items-in-BeginArray-clause-err : goal.read-returns-in_err-read_items-in-BeginArray-clause-err
read-returns-in_err-read_items-in-BeginArray-clause-err t c refused =
    let first : c.args.reader.now ≡ token_of c.in-Some.token ∷ c.next.new.self = grind arith in
    let opened = ap (converted (datum_of c.args.numbers)) (ap (value c.args.depth) (first ∙ ap (λ k. token_of k ∷ c.next.new.self) c.in-BeginArray.is) ∙ value-begin_array c.args.depth c.next.new.self (omega arith)) ∙ converted-array c.args.numbers (items (value (c.args.depth - 1)) (length c.next.new.self) c.next.new.self) in
    opened ∙ ap (parse_map array) (c.read_items.ensures.err (grind arith))

pub read-returns-in_err-read_pairs-in-BeginObject-clause-err : goal.read-returns-in_err-read_pairs-in-BeginObject-clause-err
read-returns-in_err-read_pairs-in-BeginObject-clause-err t c refused =
    let first : c.args.reader.now ≡ token_of c.in-Some.token ∷ c.next.new.self = grind arith in
    let opened = ap (converted (datum_of c.args.numbers)) (ap (value c.args.depth) (first ∙ ap (λ k. token_of k ∷ c.next.new.self) c.in-BeginObject.is) ∙ value-begin_object c.args.depth c.next.new.self (omega arith)) ∙ converted-object c.args.numbers (members (value (c.args.depth - 1)) (length c.next.new.self) c.next.new.self) in
    opened ∙ ap (parse_map object) (c.read_pairs.ensures.err (grind arith))

pub read-returns-in_ok-read_items-in-BeginArray-clause-ok : goal.read-returns-in_ok-read_items-in-BeginArray-clause-ok
read-returns-in_ok-read_items-in-BeginArray-clause-ok t c =
    let first : c.args.reader.now ≡ token_of c.in-Some.token ∷ c.next.new.self = grind arith in
    let opened = ap (converted (datum_of c.args.numbers)) (ap (value c.args.depth) (first ∙ ap (λ k. token_of k ∷ c.next.new.self) c.in-BeginArray.is) ∙ value-begin_array c.args.depth c.next.new.self (omega arith)) ∙ converted-array c.args.numbers (items (value (c.args.depth - 1)) (length c.next.new.self) c.next.new.self) in
    let found = c.in_ok-read_items-in-BeginArray in
    opened ∙ ap (parse_map array) found.ensures.ok ∙ ap (λ d. Some (d, c.read_items.new.reader)) (sym (view-Array found.field-0))

pub read-returns-in_ok-read_pairs-in-BeginObject-clause-ok : goal.read-returns-in_ok-read_pairs-in-BeginObject-clause-ok
read-returns-in_ok-read_pairs-in-BeginObject-clause-ok t c =
    let first : c.args.reader.now ≡ token_of c.in-Some.token ∷ c.next.new.self = grind arith in
    let opened = ap (converted (datum_of c.args.numbers)) (ap (value c.args.depth) (first ∙ ap (λ k. token_of k ∷ c.next.new.self) c.in-BeginObject.is) ∙ value-begin_object c.args.depth c.next.new.self (omega arith)) ∙ converted-object c.args.numbers (members (value (c.args.depth - 1)) (length c.next.new.self) c.next.new.self) in
    let found = c.in_ok-read_pairs-in-BeginObject in
    opened ∙ ap (parse_map object) found.ensures.ok ∙ ap (λ d. Some (d, c.read_pairs.new.reader)) (sym (view-Object found.field-0))

pub read_items-items-init : goal.read_items-items-init
read_items-items-init t c =
    let all = list_items_at c.args.numbers c.args.depth (length c.args.reader.now) c.args.reader.now in
    (length c.args.reader.now, omega arith, none_before all ∙ ap (λ vs. parse_map (after vs) all) (sym c.new-found.ensures.items), omega arith)

pub read_items-returns-in_err-item-clause-err : goal.read_items-returns-in_err-item-clause-err
read_items-returns-in_err-item-clause-err t c refused =
    let l = c.items in
    let going : (after_end_array l.reader ≡ None) × (c.take_end_array.new.self ≡ l.reader) = grind arith in
    let none = item_refused c.args.numbers (value c.args.depth) l.invariant.0 l.reader going.0 (rw (← going.1) (c.read.ensures.err (grind arith))) in
    l.invariant.2 ∙ ap (parse_map (after l.found.items)) none

pub read_items-items-preserved : goal.read_items-items-preserved
read_items-items-preserved t c =
    let p = value c.args.depth in
    let l = c.items in
    let n = l.invariant.0 in
    let going : (after_end_array l.reader ≡ None) × (c.take_end_array.new.self ≡ l.reader) = grind arith in
    let done = c.in_ok-item.ensures in
    let v = c.in_ok-item.item in
    let r = c.read.new.reader in
    let less : length r < length l.reader = rw (← going.1) done.shorter in
    let turn = item_read c.args.numbers p n l.reader r (view v) (omega (arith, l.invariant.1)) going.0 (rw (← going.1) done.ok) in (
      n - 1,
      omega (arith, l.invariant.1),
      l.invariant.2 ∙ ap (parse_map (after l.found.items)) turn ∙ one_more_item l.found.items v _
          ∙ ap (λ vs. parse_map (after vs) (list_items_at c.args.numbers c.args.depth (n - 1) r)) (sym c.in_ok-push.ensures.items),
      omega (arith, l.invariant.3),
    )

pub read_items-returns-clause-ok : goal.read_items-returns-clause-ok
read_items-returns-clause-ok t c =
    let p = value c.args.depth in
    let l = c.items in
    let n = l.invariant.0 in
    let r = c.take_end_array.new.self in
    l.invariant.2 ∙ ap (parse_map (after l.found.items)) (items_over c.args.numbers p n l.reader r l.invariant.1 (grind arith)) ∙ ap (λ ds. Some (ds, r)) (after_none l.found.items)

pub read_pairs-pairs-init : goal.read_pairs-pairs-init
read_pairs-pairs-init t c =
    let all = members (value c.args.depth) (length c.args.reader.now) c.args.reader.now in
    (length c.args.reader.now, omega arith, ap (λ es. converted (λ ms. token_pairs c.args.numbers ms (pairs_view es)) all) (sym c.new-found.ensures.empty), omega arith)

pub read_pairs-returns-in_err-name-clause-err : goal.read_pairs-returns-in_err-name-clause-err
read_pairs-returns-in_err-name-clause-err t c refused =
    let l = c.pairs in
    l.invariant.2 ∙ key_refused c.args.numbers (value c.args.depth) (pairs_view l.found.entries) l.invariant.0 l.reader c.in_err-name.ensures.value

pub read_pairs-returns-in_err-member-clause-err : goal.read_pairs-returns-in_err-member-clause-err
read_pairs-returns-in_err-member-clause-err t c refused =
    let l = c.pairs in
    let k = c.in-Some.name.now in
    let s = c.next_key.new.self in
    let named : read_key l.reader ≡ Some (Some k, s) = grind arith in
    l.invariant.2 ∙ pair_refused c.args.numbers (value c.args.depth) (pairs_view l.found.entries) l.invariant.0 k l.reader s named (c.read.ensures.err (grind arith))

pub read_pairs-pairs-preserved : goal.read_pairs-pairs-preserved
read_pairs-pairs-preserved t c =
    let p = value c.args.depth in
    let l = c.pairs in
    let n = l.invariant.0 in
    let old = pairs_view l.found.entries in
    let k = c.in-Some.name.now in
    let s = c.next_key.new.self in
    let named : read_key l.reader ≡ Some (Some k, s) = grind arith in
    let done = c.in_ok-member.ensures in
    let v = c.in_ok-member.member in
    let r = c.read.new.reader in
    let less = read_key-shorter l.reader (Some k) s named in
    let lesser = done.shorter in
    let inserted : pairs_view c.put_member.new.found.entries ≡ put k (view v) old = c.in_ok-put_member.ensures.put in (
      n - 1,
      omega (arith, l.invariant.1),
      l.invariant.2 ∙ pair_read c.args.numbers p old n k l.reader s r (view v) (omega (arith, l.invariant.1)) named done.ok
          ∙ ap (λ found. converted (λ ms. token_pairs c.args.numbers ms found) (members p (n - 1) r)) (sym inserted),
      omega (arith, l.invariant.3),
    )

pub read_pairs-returns-clause-ok : goal.read_pairs-returns-clause-ok
read_pairs-returns-clause-ok t c =
    let p = value c.args.depth in
    let l = c.pairs in
    let n = l.invariant.0 in
    let old = pairs_view l.found.entries in
    l.invariant.2 ∙ pairs_over c.args.numbers p old n l.reader c.next_key.new.self l.invariant.1 (grind arith)

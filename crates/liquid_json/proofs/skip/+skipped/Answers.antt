use Rattle.std.proofs.Common.{◌≡◌, ◌-◌, ◌<◌, ◌∷◌, length, Some, None, refl, ap, ◌∙◌, arith}
use Rattle.std.proofs.lemmas.Result.{IfOk-weaker}
use Rattle.json.specs.Json.{parse_map, after_end_array, read_key, items, members, value}
use Rattle.json.specs.Reads.{token_of}
use Rattle.json.proofs.Grammar.{value-begin_array, value-begin_object, read_key-shorter}
use Rattle.serde_json.specs.Read.{converted}
use Rattle.liquid_model.specs.Data.{array, object, no_pairs, item, no_items, put}
use Rattle.liquid_json.specs.inside.Tokens.{datum_of, datum_at}
use Rattle.liquid_json.specs.declared.tokens.Numbers.TheVariants.{Integers}
use Rattle.liquid_json.proofs.ScalarTokens.{scalar_read, some_given}
use Rattle.liquid_json.proofs.Turns.{converted-array, converted-object, item_read, items_over, pair_read, pairs_over}
use Rattle.liquid_json.proofs.skip.+skipped.Goals as goal

pub skipped-returns-in_default-token-clause-ok : goal.skipped-returns-in_default-token-clause-ok
skipped-returns-in_default-token-clause-ok t c =
    let first : c.args.reader.now ≡ token_of c.in-Some.token ∷ c.next.new.self = grind arith in
    IfOk-weaker c.check_scalar.result _ _ (λ u h. let d = some_given _ h in (d.0, ap (datum_at Integers c.args.depth) first ∙ scalar_read Integers c.args.depth (token_of c.in-Some.token) _ d.0 d.1)) c.check_scalar.ensures

pub skipped-returns-else-depth-eq0-clause-ok : goal.skipped-returns-else-depth-eq0-clause-ok
skipped-returns-else-depth-eq0-clause-ok t c =
    let first : c.args.reader.now ≡ token_of c.in-Some.token ∷ c.next.new.self = grind arith in
    let opened = ap (converted (datum_of Integers)) (ap (value c.args.depth) (first ∙ ap (λ k. token_of k ∷ c.next.new.self) c.in-BeginArray.is) ∙ value-begin_array c.args.depth c.next.new.self (omega arith)) ∙ converted-array Integers (items (value (c.args.depth - 1)) (length c.next.new.self) c.next.new.self) in
    IfOk-weaker c.skip_items.result _ _ (λ u found. (array found.0, opened ∙ ap (parse_map array) found.1)) c.skip_items.ensures.ok

pub skipped-returns-else-depth-eq0-2-clause-ok : goal.skipped-returns-else-depth-eq0-2-clause-ok
skipped-returns-else-depth-eq0-2-clause-ok t c =
    let first : c.args.reader.now ≡ token_of c.in-Some.token ∷ c.next.new.self = grind arith in
    let opened = ap (converted (datum_of Integers)) (ap (value c.args.depth) (first ∙ ap (λ k. token_of k ∷ c.next.new.self) c.in-BeginObject.is) ∙ value-begin_object c.args.depth c.next.new.self (omega arith)) ∙ converted-object Integers (members (value (c.args.depth - 1)) (length c.next.new.self) c.next.new.self) in
    IfOk-weaker c.skip_pairs.result _ _ (λ u found. let all = found no_pairs in (object all.0, opened ∙ ap (parse_map object) all.1)) c.skip_pairs.ensures.ok

pub skip_items-items-preserved : goal.skip_items-items-preserved
skip_items-items-preserved t c =
    let p = value c.args.depth in
    let l = c.items in
    let n = l.invariant.0 in
    let going : (after_end_array l.reader ≡ None) × (c.take_end_array.new.self ≡ l.reader) = grind arith in
    let done = c.in_ok-skipped.ensures in
    let r = c.skipped.new.reader in
    let less : length r < length l.reader = rw (← going.1) done.shorter in
    let turn = item_read Integers p n l.reader r done.ok.0 (omega (arith, l.invariant.1)) going.0 (rw (← going.1) done.ok.1) in (
      n - 1,
      omega (arith, l.invariant.1),
      (λ ds s e. l.invariant.2 (item done.ok.0 ds) s (turn ∙ ap (parse_map (item done.ok.0)) e)),
      omega (arith, l.invariant.3),
    )

pub skip_items-returns-clause-ok : goal.skip_items-returns-clause-ok
skip_items-returns-clause-ok t c =
    let p = value c.args.depth in
    let l = c.items in
    let n = l.invariant.0 in
    let r = c.take_end_array.new.self in
    l.invariant.2 no_items r (items_over Integers p n l.reader r l.invariant.1 (grind arith))

pub skip_pairs-pairs-init : goal.skip_pairs-pairs-init
skip_pairs-pairs-init t c = (length c.args.reader.now, omega arith, (λ found. (found, refl)), omega arith)

pub skip_pairs-pairs-preserved : goal.skip_pairs-pairs-preserved
skip_pairs-pairs-preserved t c =
    let p = value c.args.depth in
    let l = c.pairs in
    let n = l.invariant.0 in
    let k = c.in-Some.name.now in
    let s = c.next_key.new.self in
    let named : read_key l.reader ≡ Some (Some k, s) = grind arith in
    let done = c.in_ok-skipped.ensures in
    let r = c.skipped.new.reader in
    let less = read_key-shorter l.reader (Some k) s named in
    let lesser = done.shorter in (
      n - 1,
      omega (arith, l.invariant.1),
      (λ found. let before = l.invariant.2 found in
          (put k done.ok.0 before.0, before.1 ∙ pair_read Integers p before.0 n k l.reader s r done.ok.0 (omega (arith, l.invariant.1)) named done.ok.1)),
      omega (arith, l.invariant.3),
    )

pub skip_pairs-returns-clause-ok : goal.skip_pairs-returns-clause-ok
skip_pairs-returns-clause-ok t c =
    let p = value c.args.depth in
    let l = c.pairs in
    let n = l.invariant.0 in
    λ found. let before = l.invariant.2 found in (before.0, before.1 ∙ pairs_over Integers p before.0 n l.reader c.next_key.new.self l.invariant.1 (grind arith))

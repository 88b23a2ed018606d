use Rattle.std.proofs.Common.{rules, ◌≡◌, length, ◌-◌, ◌<◌, sym, ap, ◌∙◌, arith}
use Rattle.std.proofs.lemmas.Result.{err_from_is_err_and}
use Rattle.std.proofs.lemmas.Bool.{eqb-true}
use Rattle.std.proofs.lemmas.List.{map-append}
use Rattle.liquid_lexer.specs.declared.fault.ParseError.TheVariants as errors
use Rattle.liquid_lexer.specs.ItemReading.{lexed_item, items_at, closer_at}
use Rattle.liquid_lexer.specs.PieceView.{lexed_items_view}
use Rattle.liquid_lexer.proofs.ItemTurns.{with_front, after_nothing, one_more, no_more, item_refused}
use Rattle.liquid_lexer.proofs.ItemLaws.{turn_shorter, nothing_read}
use Rattle.liquid_lexer.proofs.item.read_items.Goals as goal

pub items-init : goal.items-init
items-init c = (
  length c.args.text.now,
  omega arith,
  after_nothing _ ∙ ap (λ is. with_front (lexed_items_view is) (items_at c.args.kind (length c.args.text.now) c.args.text.now)) (sym c.new-items.ensures.items),
  search rules,
)

pub returns-in-Some : goal.returns-in-Some
returns-in-Some c =
    let l = c.items in
    l.invariant.2 ∙ no_more c.args.kind l.invariant.0 (lexed_items_view l.items.items) l.rest.now _ (ap (closer_at c.args.kind) (sym c.past_white-from.ensures) ∙ sym c.in-Some.ensures)

pub returns-in_err-item : goal.returns-in_err-item
returns-in_err-item c =
    let p = err_from_is_err_and c.from_residual.result c.from_residual.ensures.1 in
    let l = c.items in
    let at = sym c.past_white-from.ensures in
    rw (p.1, p.2) (item_refused c.args.kind c.in_err-item.field-0.0 l.invariant.0 (lexed_items_view l.items.items) l.rest.now _
    (ap (closer_at c.args.kind) at ∙ sym c.in_default.ensures) (rw at c.in_err-item.ensures) l.invariant.2)

pub items-smaller : goal.items-smaller
items-smaller c = let lt : length c.in_ok-item.after.now < length c.items.rest.now = turn_shorter c.items.rest.now c.past_white-from.result.now _ c.past_white-from.ensures c.in_ok-item.ensures in lt

pub items-preserved : goal.items-preserved
items-preserved c =
    let l = c.items in
    let k = c.args.kind in
    let n = l.invariant.0 in
    let at = sym c.past_white-from.ensures in
    let small = turn_shorter c.items.rest.now c.past_white-from.result.now _ c.past_white-from.ensures c.in_ok-item.ensures in
    let pushed = c.in_ok-push_back.ensures.items in (
      n - 1,
      omega (arith, small, l.invariant.1),
      l.invariant.2 ∙ one_more k n (lexed_items_view l.items.items) l.rest.now _ (omega (arith, small, l.invariant.1)) (ap (closer_at k) at ∙ sym c.in_default.ensures) (ap lexed_item at ∙ c.in_ok-item.ensures)
          ∙ ap (λ is. with_front is (items_at k (n - 1) c.in_ok-item.after.now)) (sym (ap lexed_items_view pushed ∙ map-append _ _ _)),
      search rules,
    )

pub returns-then-is_empty : goal.returns-then-is_empty
returns-then-is_empty c =
    let l = c.items in
    let at = sym c.past_white-from.ensures in
    let over : length c.past_white-from.result.now ≡ 0 = eqb-true _ 0 (sym c.if-is_empty.ensures) in
    item_refused c.args.kind (errors.Fault c.unclosed.result) l.invariant.0 (lexed_items_view l.items.items) l.rest.now _
    (ap (closer_at c.args.kind) at ∙ sym c.in_default.ensures) (rw at (nothing_read c.past_white-from.result.now over)) l.invariant.2

use Rattle.std.proofs.Common.{◌≡◌, length, ℕ, ◌-◌, ◌<◌, List, None, sym, ap, ◌∙◌, arith, rules}
use Rattle.std.specs.Option.{option_map}
use Rattle.liquid_lexer.specs.SourceReading.{Mark, mark_at, raw_at}
use Rattle.liquid_lexer.specs.PieceView.{mark_view}
use Rattle.liquid_lexer.proofs.CommentTurns.{none_left, found_shorter, to_inner, raw_open, past_raw, raw_found_shorter, closed, inner_closed}
use Rattle.liquid_lexer.proofs.mark.read_comment.Goals as goal

pub returns-in_err-mark : goal.returns-in_err-mark
returns-in_err-mark c =
    let i = c.marks.invariant in
    let none : mark_at c.past_comment.result.now ≡ None = sym c.in_err-mark.ensures in
    ap (option_map (λ x. (x.0, x.1.now))) c.from_residual.ensures ∙ sym (i.3 ∙ none_left i.0 c.marks.inner c.marks.rest.now c.past_comment.result.now c.past_comment.ensures none)

pub marks-smaller-then-eq : goal.marks-smaller-then-eq
marks-smaller-then-eq c =
    let i = c.marks.invariant in
    let m : Mark × List ℕ = (mark_view c.in_ok-mark.mark, c.in_ok-mark.after.now) in
    let less : length c.in_ok-mark.after.now < length c.marks.rest.now = found_shorter i.0 c.marks.inner c.marks.rest.now c.past_comment.result.now c.past_comment.ensures m (sym c.in_ok-mark.ensures) in
    less

pub marks-preserved-then-eq : goal.marks-preserved-then-eq
marks-preserved-then-eq c =
    let i = c.marks.invariant in
    let m : Mark × List ℕ = (mark_view c.in_ok-mark.mark, c.in_ok-mark.after.now) in
    let less : length c.in_ok-mark.after.now < length c.marks.rest.now = found_shorter i.0 c.marks.inner c.marks.rest.now c.past_comment.result.now c.past_comment.ensures m (sym c.in_ok-mark.ensures) in (
      i.0 - 1,
      omega (arith, less, i.1),
      omega (arith, less, i.2),
      i.3 ∙ to_inner i.0 c.marks.inner c.marks.rest.now c.past_comment.result.now c.past_comment.ensures m (sym c.in_ok-mark.ensures) (omega (arith, less, i.1)) (sym c.if-eq.ensures),
      search rules,
    )

pub returns-in_err-after : goal.returns-in_err-after
returns-in_err-after c =
    let i = c.marks.invariant in
    let m : Mark × List ℕ = (mark_view c.in_ok-mark.mark, c.in_ok-mark.after.now) in
    let none : raw_at c.in_ok-mark.after.now ≡ None = sym c.in_err-after.ensures in
    ap (option_map (λ x. (x.0, x.1.now))) c.from_residual-in_err-after.ensures
    ∙ sym (i.3 ∙ raw_open i.0 c.marks.inner c.marks.rest.now c.past_comment.result.now c.past_comment.ensures m (sym c.in_ok-mark.ensures) (sym c.if-eq.ensures) (sym c.if-eq-2.ensures) none)

pub marks-smaller-then-eq-2 : goal.marks-smaller-then-eq-2
marks-smaller-then-eq-2 c =
    let i = c.marks.invariant in
    let m : Mark × List ℕ = (mark_view c.in_ok-mark.mark, c.in_ok-mark.after.now) in
    let r : List ℕ × Mark × List ℕ = (c.in_ok-after.field-0-0.now, mark_view c.in_ok-after.field-0-1, c.in_ok-after.after.now) in
    let less : length c.in_ok-after.after.now < length c.marks.rest.now =
    raw_found_shorter i.0 c.marks.inner c.marks.rest.now c.past_comment.result.now c.past_comment.ensures m (sym c.in_ok-mark.ensures) (sym c.if-eq.ensures) r (sym c.in_ok-after.ensures) in
    less

pub marks-preserved-then-eq-2 : goal.marks-preserved-then-eq-2
marks-preserved-then-eq-2 c =
    let i = c.marks.invariant in
    let m : Mark × List ℕ = (mark_view c.in_ok-mark.mark, c.in_ok-mark.after.now) in
    let r : List ℕ × Mark × List ℕ = (c.in_ok-after.field-0-0.now, mark_view c.in_ok-after.field-0-1, c.in_ok-after.after.now) in
    let less : length c.in_ok-after.after.now < length c.marks.rest.now =
    raw_found_shorter i.0 c.marks.inner c.marks.rest.now c.past_comment.result.now c.past_comment.ensures m (sym c.in_ok-mark.ensures) (sym c.if-eq.ensures) r (sym c.in_ok-after.ensures) in (
      i.0 - 1,
      omega (arith, less, i.1),
      omega (arith, less, i.2),
      i.3 ∙ past_raw i.0 c.marks.inner c.marks.rest.now c.past_comment.result.now c.past_comment.ensures m (sym c.in_ok-mark.ensures) (sym c.if-eq.ensures) (omega (arith, less, i.1)) (sym c.if-eq-2.ensures) r (sym c.in_ok-after.ensures),
      search rules,
    )

pub returns-then-inner-eq0 : goal.returns-then-inner-eq0
returns-then-inner-eq0 c =
    let i = c.marks.invariant in
    let m : Mark × List ℕ = (mark_view c.in_ok-mark.mark, c.in_ok-mark.after.now) in
    sym (i.3 ∙ closed i.0 c.marks.inner c.marks.rest.now c.past_comment.result.now c.past_comment.ensures m (sym c.in_ok-mark.ensures) (sym c.if-eq.ensures) (sym c.if-eq-2.ensures) c.if-inner-eq0.true)

pub marks-smaller : goal.marks-smaller
marks-smaller c =
    let i = c.marks.invariant in
    let m : Mark × List ℕ = (mark_view c.in_ok-mark.mark, c.in_ok-mark.after.now) in
    let less : length c.in_ok-mark.after.now < length c.marks.rest.now = found_shorter i.0 c.marks.inner c.marks.rest.now c.past_comment.result.now c.past_comment.ensures m (sym c.in_ok-mark.ensures) in
    less

pub marks-preserved : goal.marks-preserved
marks-preserved c =
    let i = c.marks.invariant in
    let m : Mark × List ℕ = (mark_view c.in_ok-mark.mark, c.in_ok-mark.after.now) in
    let less : length c.in_ok-mark.after.now < length c.marks.rest.now = found_shorter i.0 c.marks.inner c.marks.rest.now c.past_comment.result.now c.past_comment.ensures m (sym c.in_ok-mark.ensures) in
    let some : 0 < c.marks.inner = omega (arith, c.if-inner-eq0.false) in (
      i.0 - 1,
      omega (arith, less, i.1),
      omega (arith, less, i.2),
      i.3 ∙ inner_closed i.0 c.marks.inner c.marks.rest.now c.past_comment.result.now c.past_comment.ensures m (sym c.in_ok-mark.ensures) (sym c.if-eq.ensures) (omega (arith, less, i.1)) (sym c.if-eq-2.ensures) some,
      search rules,
    )

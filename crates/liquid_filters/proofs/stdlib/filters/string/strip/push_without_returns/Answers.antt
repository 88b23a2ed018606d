use Rattle.std.proofs.Common.{◌++◌, ◌==◌, not, true, string_bytes, arith, rules, ap, sym, ◌∙◌}
use Rattle.liquid_filters.proofs.Newlines.{piece_turn, piece_end, agree_cr, gone_cr, whole_kept}
use Rattle.liquid_filters.proofs.stdlib.filters.string.strip.push_without_returns.Goals as goal

pub loop-before-preserved : goal.loop-before-preserved
loop-before-preserved c =
    let cut = c.in-Some.ensures.byte (omega arith) (λ w o f. f) in
    let kept = whole_kept c.in-Some.before.now (search rules) in
    let written = c.in_ok-push_str.ensures.bytes ∙ ap (λ t. string_bytes c.loop-before.out ++ t) (sym kept) in
    (search rules, piece_turn (λ d. not (d == 13)) (λ d. true) 13 (omega arith) agree_cr gone_cr c.loop-before.rest.now c.in-Some.before.now c.in-Some.after.now _ _ _ (search rules) (search rules) cut.0 cut.1 cut.2 written c.loop-before.invariant.1)

pub returns : goal.returns
returns c =
    let none = c.in_default.ensures.byte (omega arith) (λ w o f. f) in
    let kept = whole_kept c.loop-before.rest.now (search rules) in
    let written = c.in_ok-push_str-2.ensures.bytes ∙ ap (λ t. string_bytes c.loop-before.out ++ t) (sym kept) in
    piece_end (λ d. not (d == 13)) (λ d. true) 13 (omega arith) agree_cr c.loop-before.rest.now _ _ _ (search rules) none written c.loop-before.invariant.1

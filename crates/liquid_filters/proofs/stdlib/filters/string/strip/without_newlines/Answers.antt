use Rattle.std.proofs.Common.{arith, not, ◌==◌, rules}
use Rattle.liquid_filters.specs.Strip.{is_newline}
use Rattle.liquid_filters.proofs.Newlines.{piece_turn, piece_end, agree_lf, gone_lf}
use Rattle.liquid_filters.proofs.stdlib.filters.string.strip.without_newlines.Goals as goal

pub loop-line-preserved : goal.loop-line-preserved
loop-line-preserved c =
    let cut = c.in-Some.ensures.byte (omega arith) (λ w o f. f) in
    (search rules, piece_turn (λ d. not (is_newline d)) (λ d. not (d == 13)) 10 (omega arith) agree_lf gone_lf c.loop-line.rest.now c.in-Some.line.now c.in-Some.after.now _ _ _ (search rules) (search rules) cut.0 cut.1 cut.2 c.in_ok-push_without_returns.ensures c.loop-line.invariant.1)

pub returns : goal.returns
returns c =
    let none = c.in_default.ensures.byte (omega arith) (λ w o f. f) in
    piece_end (λ d. not (is_newline d)) (λ d. not (d == 13)) 10 (omega arith) agree_lf c.loop-line.rest.now _ _ _ (search rules) none c.in_ok-push_without_returns-2.ensures c.loop-line.invariant.1

use Rattle.std.proofs.Common.{take, rules, ap, ◌∙◌, arith}
use Rattle.liquid_filters.proofs.Words.{words_start, enough_left, words_turn, words_none, words_boundary, words_end}
use Rattle.liquid_filters.proofs.stdlib.filters.string.truncate.first_words.Goals as goal

pub loop-i-init : goal.loop-i-init
loop-i-init c = (c.utf8.text, words_start c.args.text.now)

pub returns-in_default : goal.returns-in_default
returns-in_default c = words_none c.args.text.now c.loop-i.rest.now c.loop-i.end c.loop-i._i c.args.count _ c.loop-i-test.true c.in_default.ensures.cases c.loop-i.invariant.1

pub overflow_sub-end : goal.overflow_sub-end
overflow_sub-end c = omega (arith, enough_left c.args.text.now c.loop-i.rest.now c.in-Some._word.now c.in-Some.after.now c.loop-i.end c.loop-i._i c.in-Some.ensures.cases c.loop-i.invariant.1)

pub overflow_sub-end-in-loop-i : goal.overflow_sub-end-in-loop-i
overflow_sub-end-in-loop-i c = enough_left c.args.text.now c.loop-i.rest.now c.in-Some._word.now c.in-Some.after.now c.loop-i.end c.loop-i._i c.in-Some.ensures.cases c.loop-i.invariant.1

pub loop-i-preserved : goal.loop-i-preserved
loop-i-preserved c = (search rules, words_turn c.args.text.now c.loop-i.rest.now c.in-Some._word.now c.in-Some.after.now c.loop-i.end c.loop-i._i c.in-Some.ensures.cases c.loop-i.invariant.1)

pub range-requires-clause-end_boundary : goal.range-requires-clause-end_boundary
range-requires-clause-end_boundary c = words_boundary c.args.text.now c.loop-i.rest.now c.loop-i.end c.loop-i._i c.utf8.text c.loop-i.invariant.1

pub returns : goal.returns
returns c = words_end c.args.text.now c.loop-i.rest.now _ c.loop-i.end c.loop-i._i c.args.count (omega arith) (c.range.ensures.value ∙ ap (λ n. take n c.args.text.now) (omega arith)) c.loop-i.invariant.1

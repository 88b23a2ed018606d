use Rattle.std.proofs.Common.{rules}
use Rattle.liquid_filters.proofs.Marks.{searched_start, mark_passed, mark_boundary, mark_found, mark_nowhere}
use Rattle.liquid_filters.proofs.stdlib.filters.html.marks.split_at_mark.Goals as goal

pub loop-after-init : goal.loop-after-init
loop-after-init c = (c.utf8.text, searched_start c.args.mark.now c.args.text.now c.utf8.text)

pub split_at-requires : goal.split_at-requires
split_at-requires c = mark_boundary c.args.mark.now c.in_ok-first.others.now c.in_ok-first.first.now c.in_ok-first.ensures.cases.0 c.requires c.args.text.now c.loop-after.rest.now c.in-Some.field-0-0.now c.in-Some.after.now c.loop-after.invariant.1 c.in-Some.ensures.cases

pub returns-in-Some-after_mark-clause-splits : goal.returns-in-Some-after_mark-clause-splits
returns-in-Some-after_mark-clause-splits c =
    mark_found c.args.mark.now c.in_ok-first.others.now c.in_ok-first.first.now c.in_ok-first.ensures.cases.0 c.requires c.args.text.now c.loop-after.rest.now c.in-Some.field-0-0.now c.in-Some.after.now c.loop-after.invariant.1 c.in-Some.ensures.cases
    c.in-Some-after_mark.left.now _ c.in-Some-after_mark.ensures.cases.0 c.in-Some-after_mark.ensures.cases.1 c.split_at.ensures.front

pub loop-after-preserved : goal.loop-after-preserved
loop-after-preserved c =
    (search rules, mark_passed c.args.mark.now c.in_ok-first.others.now c.in_ok-first.first.now c.in_ok-first.ensures.cases.0 c.requires c.args.text.now c.loop-after.rest.now c.in-Some.field-0-0.now c.in-Some.after.now c.loop-after.invariant.1 c.in-Some.ensures.cases c.in_default-after_mark.ensures.cases)

pub returns-clause-splits : goal.returns-clause-splits
returns-clause-splits c = mark_nowhere c.args.mark.now c.in_ok-first.others.now c.in_ok-first.first.now c.in_ok-first.ensures.cases.0 c.requires c.args.text.now c.loop-after.rest.now c.loop-after.invariant.1 c.in_default.ensures.cases

use Rattle.std.proofs.Common.{rules}
use Rattle.liquid_filters.proofs.Marks.{pass_turn, pass_end}
use Rattle.liquid_filters.proofs.stdlib.filters.html.marks.push_without_pairs.Goals as goal

pub loop-before-preserved : goal.loop-before-preserved
loop-before-preserved c =
    (search rules, pass_turn c.args.opener.now c.args.closer.now c.loop-before.rest.now c.in-Some.before.now c.in-Some.after.now _ _ _ (search rules) c.in-Some.ensures.cases c.in_ok-push_str.ensures.bytes c.loop-before.invariant.1)

pub returns : goal.returns
returns c = pass_end c.args.opener.now c.args.closer.now c.loop-before.rest.now _ _ _ (search rules) c.in_default.ensures.cases c.in_ok-push_str-2.ensures.bytes c.loop-before.invariant.1

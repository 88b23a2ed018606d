use Rattle.std.proofs.Common.{rules}
use Rattle.liquid_filters.proofs.Marks.{pass_none, pass_first}
use Rattle.liquid_filters.proofs.stdlib.filters.html.marks.without_pairs.Goals as goal

pub returns-in_default : goal.returns-in_default
returns-in_default c = pass_none c.args.opener.now c.args.closer.now c.args.text.now c.utf8.text c.in_default.ensures.cases

pub returns : goal.returns
returns c = pass_first c.args.opener.now c.args.closer.now c.args.text.now c.in-Some.before.now c.in-Some.after.now _ _ _ (search rules) c.in-Some.ensures.cases c.in_ok-out.ensures.bytes c.in_ok-push_str.ensures.bytes c.in_ok-push_without_pairs.ensures

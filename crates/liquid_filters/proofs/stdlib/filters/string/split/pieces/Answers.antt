use Rattle.std.proofs.Common.{rules}
use Rattle.liquid_filters.proofs.Splits.{pieces_turn, pieces_end, views_text}
use Rattle.liquid_filters.proofs.stdlib.filters.string.split.pieces.Goals as goal

pub loop-before-preserved : goal.loop-before-preserved
loop-before-preserved c =
    (search rules, pieces_turn c.args.separator.now c.args.text.now c.loop-before.rest.now _ _ _ _ c.requires c.in-Some.ensures.cases (views_text _ _ _ _ c.in_ok-push.ensures.items c.in_ok-from_str.ensures.ok) c.loop-before.invariant.1)

pub returns : goal.returns
returns c =
    pieces_end c.args.separator.now c.args.text.now c.loop-before.rest.now _ _ c.requires c.in_default.ensures.cases (views_text _ _ _ _ c.in_ok-push-2.ensures.items c.in_ok-from_str-2.ensures.ok) c.loop-before.invariant.1

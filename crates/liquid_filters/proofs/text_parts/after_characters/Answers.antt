use Rattle.std.proofs.Common.{◌-◌, ◌∙◌, arith}
use Rattle.liquid_filters.proofs.Characters.{skipped_turn, skipped_end, skipped_done}
use Rattle.liquid_filters.proofs.text_parts.after_characters.Goals as goal

pub loop-i-preserved : goal.loop-i-preserved
loop-i-preserved c = skipped_turn c.loop-i.rest.rest.now _ _ c.in-Some._character c.args.count c.loop-i._i c.loop-i-test.true c.in-Some.ensures.steps.0 c.loop-i.invariant

pub returns-in_default : goal.returns-in_default
returns-in_default c = skipped_end c.loop-i.rest.rest.now _ _ c.in_default.ensures.steps.0.0 c.loop-i.invariant

pub returns : goal.returns
returns c = c.as_str.ensures ∙ skipped_done c.loop-i.rest.rest.now _ (c.args.count - c.loop-i._i) (omega arith) c.loop-i.invariant

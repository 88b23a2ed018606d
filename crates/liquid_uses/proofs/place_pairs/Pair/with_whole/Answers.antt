use Rattle.liquid_model.specs.Uses.{everything}
use Rattle.liquid_uses.specs.inside.Chains.{takes}
use Rattle.liquid_uses.proofs.Chains.{never, takes_with}
use Rattle.liquid_uses.proofs.place_pairs.Pair.with_whole.Goals as goal

pub returns-then-is_whole : goal.returns-then-is_whole
returns-then-is_whole c = λ u h. takes_with c.args.key.now everything u c.args.self (c.member.ensures everything (c.is_whole.ensures c.if-is_whole.true)) h

pub returns-else-is_whole : goal.returns-else-is_whole
returns-else-is_whole c = λ u h. never (takes c.refused.result u) (c.refused.ensures u) h _

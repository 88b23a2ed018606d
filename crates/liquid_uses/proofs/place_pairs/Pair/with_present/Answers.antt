use Rattle.liquid_model.specs.Uses.{there}
use Rattle.liquid_uses.specs.inside.Chains.{takes}
use Rattle.liquid_uses.proofs.Chains.{never, takes_with}
use Rattle.liquid_uses.proofs.place_pairs.Pair.with_present.Goals as goal

pub returns-then-is_present : goal.returns-then-is_present
returns-then-is_present c = λ u h. takes_with c.args.key.now there u c.args.self (c.member.ensures there (c.is_present.ensures c.if-is_present.true)) h

pub returns-else-is_present : goal.returns-else-is_present
returns-else-is_present c = λ u h. never (takes c.refused.result u) (c.refused.ensures u) h _

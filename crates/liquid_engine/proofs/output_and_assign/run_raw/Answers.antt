use Rattle.liquid_engine.proofs.Joined.{by_rule, write_met}
use Rattle.liquid_meaning.proofs.Rules.{raw_rule}
use Rattle.liquid_engine.proofs.output_and_assign.run_raw.Goals as goal

pub returns-clause-performs : goal.returns-clause-performs
returns-clause-performs g c = by_rule (raw_rule _ _ c.args.text.now) (write_met c.push_text.result _ _ _ _ c.push_text.ensures.writes)

use Rattle.std.proofs.Common.{sym}
use Rattle.liquid_warnings.proofs.SeenSteps.{none_before}
use Rattle.liquid_warnings.proofs.tag_output.before_steps.Goals as goal

pub returns-in-len1-up : goal.returns-in-len1-up
returns-in-len1-up c = sym (none_before c.args.name.now c.args.steps.now c.in-len1-up.len_at_least)

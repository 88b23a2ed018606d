use Rattle.std.proofs.Common.{rules}
use Rattle.liquid_c.specs.HostTags.{refused}
use Rattle.liquid_c.proofs.tags.register_tag.Goals as goal

pub returns-in-Err-Refused : goal.returns-in-Err-Refused
returns-in-Err-Refused c = refused c.in-Err-Refused.reason (search rules) (search rules) (search rules)

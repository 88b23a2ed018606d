use Rattle.std.proofs.Common.{rules}
use Rattle.liquid_c.proofs.HostTags.{of_bytes}
use Rattle.liquid_c.specs.HostTags.{added, no_text}
use Rattle.liquid_c.proofs.tags.register_asked.Goals as goal

pub returns-in_default-from_utf8 : goal.returns-in_default-from_utf8
returns-in_default-from_utf8 c = no_text c.in-Some.style (search rules) (search rules) (search rules) (search rules)

pub returns-in_default-from_utf8-2 : goal.returns-in_default-from_utf8-2
returns-in_default-from_utf8-2 c = no_text c.in-Some.style (search rules) (search rules) (search rules) (search rules)

pub returns-in_default-from_utf8-3 : goal.returns-in_default-from_utf8-3
returns-in_default-from_utf8-3 c = no_text c.in-Some.style (search rules) (search rules) (search rules) (search rules)

pub returns : goal.returns
returns c = added c.in-Some.style (search rules) (search rules) (search rules) (search rules) (of_bytes _ _ _ _ _ _ _ _ _ _ _ (search rules) (search rules) (search rules) c.register_given.ensures)

use Rattle.std.proofs.Common.{rules}
use Rattle.liquid_c.proofs.HostTags.{in_language}
use Rattle.liquid_c.proofs.tags.register_in_handle.Goals as goal

pub returns-in-Own-Language : goal.returns-in-Own-Language
returns-in-Own-Language c = in_language _ _ _ _ _ _ _ _ c.in-Own-Language.language (search rules) c.register_asked.ensures

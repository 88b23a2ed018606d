use Rattle.std.proofs.Common.{rules}
use Rattle.liquid_core.proofs.Hosts.{kind_replaced}
use Rattle.liquid_core.proofs.host_filters.with_run_kind.Goals as goal

pub returns-else-number-le17 : goal.returns-else-number-le17
returns-else-number-le17 c wanted h = kind_replaced c.in-Err.fault.kind c.new.result.kind wanted (search rules) (search rules) c.new.ensures.kind_or_memory

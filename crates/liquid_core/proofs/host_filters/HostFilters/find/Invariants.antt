use Rattle.std.proofs.Common.{◌≡◌, option_map, take}
use Rattle.liquid_core.specs.Hosts.{last_named}
use Rattle.liquid_core.proofs.host_filters.HostFilters.find.Given as goal

abbrev pub invariant-loop-known : goal.invariant-loop-known
invariant-loop-known g l = option_map (λ b. b.now) l.found ≡ last_named l.name (take l.known-index l.known-items)

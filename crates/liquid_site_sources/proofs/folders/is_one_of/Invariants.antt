use Rattle.std.proofs.Common.{◌≡◌, map, drop, string_bytes, bytes_eq}
use Rattle.std.specs.List.{list_any}
use Rattle.liquid_site_sources.proofs.folders.is_one_of.Given as goal

-- the names that are left decide as all of them do
abbrev pub invariant-loop-known : goal.invariant-loop-known
invariant-loop-known l = list_any (bytes_eq l.name) (map string_bytes (drop l.known-index l.names)) ≡ list_any (bytes_eq l.name) (map string_bytes l.names)

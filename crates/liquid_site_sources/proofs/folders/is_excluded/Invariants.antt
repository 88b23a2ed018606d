use Rattle.std.proofs.Common.{◌≡◌, map, drop, string_bytes}
use Rattle.std.specs.List.{list_any}
use Rattle.liquid_site_build.specs.SiteFiles.{is_within}
use Rattle.liquid_site_sources.proofs.folders.is_excluded.Given as goal

-- the entries that are left decide as all of them do
abbrev pub invariant-loop-entry : goal.invariant-loop-entry
invariant-loop-entry l = list_any (is_within l.path) (map string_bytes (drop l.entry-index l.excluded)) ≡ list_any (is_within l.path) (map string_bytes l.excluded)

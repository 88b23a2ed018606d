use Rattle.std.proofs.Common.{◌≡◌, map, string_bytes, eqb}
use Rattle.std.specs.List.{list_any, slice_split}
use Rattle.liquid_yaml.specs.Bytes.{left_view, parts_left}
use Rattle.liquid_yaml.proofs.Parts.{size_left}
use Rattle.liquid_site_build.specs.SiteFiles.{is_hidden_by}
use Rattle.liquid_site_sources.proofs.folders.is_hidden.Given as goal

-- the names that are left decide as all of them do
abbrev pub invariant-loop-left : goal.invariant-loop-left
invariant-loop-left l = list_any (is_hidden_by (map string_bytes l.included)) (parts_left 47 (left_view l.left)) ≡ list_any (is_hidden_by (map string_bytes l.included)) (slice_split (λ b. eqb b 47) l.path)

abbrev pub decreases-loop-left : goal.decreases-loop-left
decreases-loop-left l = size_left l.left

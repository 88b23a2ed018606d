use Rattle.std.proofs.Common.{◌≡◌, drop, bytes_eq, None}
use Rattle.liquid_files.specs.PartialNames.{file_places, place_by}
use Rattle.liquid_files.proofs.partial_names.PartialNames.place.Given as goal

-- what was found and the names that are left tell what all names do
abbrev pub invariant-loop-known : goal.invariant-loop-known
invariant-loop-known l = place_by (λ known. bytes_eq known l.name) None (file_places l.known-items)
    ≡ place_by (λ known. bytes_eq known l.name) l.found (file_places (drop l.known-index l.known-items))

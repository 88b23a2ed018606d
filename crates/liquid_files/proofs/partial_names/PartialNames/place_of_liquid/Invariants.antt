use Rattle.std.proofs.Common.{◌≡◌, drop, None}
use Rattle.liquid_files.specs.PartialNames.{file_places, is_liquid, place_by}
use Rattle.liquid_files.proofs.partial_names.PartialNames.place_of_liquid.Given as goal

-- what was found and the names that are left tell what all names do
abbrev pub invariant-loop-known : goal.invariant-loop-known
invariant-loop-known l = place_by (λ known. is_liquid known l.name) None (file_places l.known-items)
    ≡ place_by (λ known. is_liquid known l.name) l.found (file_places (drop l.known-index l.known-items))

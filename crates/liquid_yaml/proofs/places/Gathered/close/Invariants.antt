use Rattle.std.proofs.Common.{◌≡◌, [], length}
use Rattle.liquid_yaml.specs.Places.{closed_places, so_far_view, places_view}
use Rattle.liquid_yaml.proofs.places.Gathered.close.Given as goal

-- ending what is left ends the whole
abbrev pub invariant-loop-place : goal.invariant-loop-place
invariant-loop-place l = closed_places l.start (places_view l.self.around.items []) (so_far_view l.self.here) ≡ closed_places l.start (places_view l.fn.self.around.items []) (so_far_view l.fn.self.here)

abbrev pub decreases-loop-place : goal.decreases-loop-place
decreases-loop-place l = length l.self.around.items

use Rattle.std.proofs.Common.{◌≡◌, map, drop}
use Rattle.liquid_model.specs.Find.{find}
use Rattle.liquid_model.specs.Found.{found_view}
use Rattle.liquid_model.specs.View.{view}
use Rattle.liquid_model.proofs.find.found_along.Given as goal

abbrev pub invariant-loop-part : goal.invariant-loop-part
invariant-loop-part l = find (found_view l.found) (map view (drop l.part-index l.path)) ≡ find (found_view l.initial.found) (map view l.path)

use Rattle.std.proofs.Common.{length, map}
use denote.Text.{Utf8}
use denote.Shadow.{shadow}
use Rattle.liquid_model.specs.View.{view}
use Rattle.liquid_filters.specs.Path.{with_steps}
use Rattle.liquid_filters.proofs.Paths.{Before}
use Rattle.liquid_filters.proofs.jekyll.array.path.read_steps.Given as goal

abbrev pub invariant-steps : goal.invariant-steps
invariant-steps l = shadow (Utf8 l.rest) × Before (with_steps (map view l.initial.steps.items) l.text) (map view l.steps.items) l.rest

abbrev pub decreases-steps : goal.decreases-steps
decreases-steps l = length l.rest

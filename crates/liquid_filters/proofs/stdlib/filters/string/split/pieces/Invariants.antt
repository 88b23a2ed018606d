use Rattle.std.proofs.Common.{◌≡◌, ◌++◌, length, map}
use denote.Text.{Utf8}
use denote.Shadow.{shadow}
use Rattle.liquid_model.specs.View.{view}
use Rattle.liquid_filters.specs.Pieces.{pieces}
use Rattle.liquid_filters.proofs.Splits.{text_data}
use Rattle.liquid_filters.proofs.stdlib.filters.string.split.pieces.Given as goal

abbrev pub invariant-loop-before : goal.invariant-loop-before
invariant-loop-before l =
    shadow (Utf8 l.rest) × (text_data (pieces l.separator 0 l.text) ≡ map view l.found.items ++ text_data (pieces l.separator 0 l.rest))

abbrev pub decreases-loop-before : goal.decreases-loop-before
decreases-loop-before l = length l.rest

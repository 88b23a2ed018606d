use Rattle.std.proofs.Common.{◌≡◌, ◌++◌, map}
use Rattle.std.specs.Str.{IsUtf8}
use Rattle.liquid_model.specs.View.{view}
use Rattle.liquid_filters.specs.Pieces.{single_characters}
use Rattle.liquid_filters.proofs.Splits.{text_data, tail_of}
use Rattle.liquid_filters.proofs.stdlib.filters.string.split.single_characters.Given as goal

abbrev pub invariant-loop-letter : goal.invariant-loop-letter
invariant-loop-letter l = IsUtf8 l.rest.rest.now × (text_data (single_characters l.text) ≡ map view l.found.items ++ text_data (tail_of l.rest.rest.now))

use Rattle.std.proofs.Common.{map, length, string_bytes, ◌≡◌, ◌++◌}
use Rattle.liquid_model.specs.Data.{text_of}
use Rattle.liquid_model.specs.Lists.{list_of}
use Rattle.liquid_model.specs.View.{items_view}
use Rattle.liquid_filters.specs.Sentence.{next_texts, sentence}
use Rattle.liquid_filters.proofs.jekyll.array.sentence.sentence.Given as goal

abbrev pub invariant-items : goal.invariant-items
invariant-items l =
    sentence l.connector (map text_of (list_of (items_view l.items))) ≡ string_bytes l.out ++ next_texts l.connector (map text_of (list_of (items_view l.left)))

abbrev pub decreases-items : goal.decreases-items
decreases-items l = length l.left

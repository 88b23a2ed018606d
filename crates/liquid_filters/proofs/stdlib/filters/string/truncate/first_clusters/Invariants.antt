use Rattle.std.proofs.Common.{◌≡◌, true, drop}
use Rattle.unicode_segmentation.specs.Grapheme.{graphemes}
use Rattle.unicode_segmentation.specs.Iter.{graphemes_left}
use Rattle.liquid_filters.proofs.stdlib.filters.string.truncate.first_clusters.Given as goal

abbrev pub invariant-loop-i : goal.invariant-loop-i
invariant-loop-i l = graphemes_left l.rest ≡ drop l._i (graphemes true l.text)

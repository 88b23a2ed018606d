use Rattle.std.proofs.Common.{◌≡◌, ◌≤◌, drop, length}
use Rattle.std.specs.Str.{chars, IsUtf8}
use Rattle.liquid_filters.specs.Tags.{begins_mark}
use Rattle.liquid_filters.proofs.stdlib.filters.html.marks.after_mark.Given as goal

abbrev pub invariant-loop-wanted : goal.invariant-loop-wanted
invariant-loop-wanted l =
    IsUtf8 l.rest.rest.now × ((begins_mark (drop l.wanted-index l.mark) (chars l.rest.rest.now) ≡ begins_mark l.mark (chars l.text)) × (chars l.rest.rest.now ≡ drop l.wanted-index (chars l.text)))
    × (length l.rest.rest.now ≤ length l.text)

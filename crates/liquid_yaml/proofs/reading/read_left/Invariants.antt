use Rattle.std.proofs.Common.{◌≡◌, Some}
use Rattle.liquid_yaml.specs.Bytes.{left_view, parts_left}
use Rattle.liquid_yaml.specs.Places.{nothing_read, gathering_view}
use Rattle.liquid_yaml.specs.Reading.{read_on}
use Rattle.liquid_yaml.proofs.Parts.{size_left}
use Rattle.liquid_yaml.proofs.reading.read_left.Given as goal

-- what is left, after what is gathered, reads as the whole
abbrev pub invariant-loop-left : goal.invariant-loop-left
invariant-loop-left l = read_on l.fn.lines.is_front (Some (gathering_view l.gathered)) (parts_left 10 (left_view l.left)) ≡ read_on l.fn.lines.is_front (Some nothing_read) (parts_left 10 (left_view l.fn.left))

abbrev pub decreases-loop-left : goal.decreases-loop-left
decreases-loop-left l = size_left l.left

use Rattle.std.proofs.Common.{◌≡◌}
use Rattle.liquid_yaml.specs.Bytes.{left_view, parts_left}
use Rattle.liquid_yaml.proofs.Parts.{size_left}
use Rattle.liquid_site_round.specs.WrittenNames.{names_among, names_listed}
use Rattle.liquid_site_round.proofs.Names.{with_names, words}
use Rattle.liquid_site_round.proofs.list.names_listed.Given as goal

-- the names so far, and those of what is left, are those of the whole
abbrev pub invariant-loop-left : goal.invariant-loop-left
invariant-loop-left l = with_names (words l.names.items) (names_among (parts_left 10 (left_view l.left))) ≡ names_listed l.list

abbrev pub decreases-loop-left : goal.decreases-loop-left
decreases-loop-left l = size_left l.left

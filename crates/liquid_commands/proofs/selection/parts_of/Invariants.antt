use Rattle.std.proofs.Common.{◌≡◌, ◌++◌, eqb}
use Rattle.std.specs.List.{slice_split}
use Rattle.liquid_yaml.specs.Bytes.{left_view, parts_left}
use Rattle.liquid_yaml.proofs.Parts.{size_left}
use Rattle.liquid_commands.specs.Selections.{words_seen}
use Rattle.liquid_commands.proofs.selection.parts_of.Given as goal

-- what is there, and the parts of what is left, are those of the whole
abbrev pub invariant-loop-left : goal.invariant-loop-left
invariant-loop-left l = words_seen l.parts.items ++ parts_left 47 (left_view l.left) ≡ slice_split (λ b. eqb b 47) l.path

abbrev pub decreases-loop-left : goal.decreases-loop-left
decreases-loop-left l = size_left l.left

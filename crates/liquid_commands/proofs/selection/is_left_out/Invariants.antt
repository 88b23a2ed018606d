use Rattle.std.proofs.Common.{◌≡◌, false, take}
use Rattle.std.specs.List.{list_any}
use Rattle.liquid_commands.specs.Selections.{stands_in, words_seen}
use Rattle.liquid_commands.proofs.selection.is_left_out.Given as goal

abbrev pub invariant-loop-pattern : goal.invariant-loop-pattern
invariant-loop-pattern l = list_any (λ q. stands_in (words_seen q.parts.items) (words_seen l.path)) (take l.pattern-index l.patterns) ≡ false

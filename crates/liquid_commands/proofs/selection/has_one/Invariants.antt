use Rattle.std.proofs.Common.{◌≡◌, false, take}
use Rattle.std.specs.List.{list_any}
use Rattle.liquid_commands.specs.Selections.{ends_in_dot}
use Rattle.liquid_commands.proofs.selection.has_one.Given as goal

abbrev pub invariant-loop-ending : goal.invariant-loop-ending
invariant-loop-ending l = list_any (λ e. ends_in_dot l.path e.now) (take l.ending-index l.endings) ≡ false

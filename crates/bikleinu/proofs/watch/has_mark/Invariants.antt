use Rattle.std.proofs.Common.{◌≡◌, false, take}
use Rattle.std.specs.List.{list_any}
use Rattle.bikleinu.specs.Watches.{is_same_mark}
use Rattle.bikleinu.proofs.watch.has_mark.Given as goal

abbrev pub invariant-loop-other : goal.invariant-loop-other
invariant-loop-other l = list_any (is_same_mark l.mark) (take l.other-index l.marks) ≡ false

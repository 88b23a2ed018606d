use Rattle.std.proofs.Common.{◌≡◌, ◌≤◌, ◌++◌, string_bytes}
use Rattle.liquid_decimals.specs.Written.{last_digits}
use Rattle.liquid_decimals.proofs.writing.push_fraction.Given as goal

abbrev pub invariant-loop-left : goal.invariant-loop-left
invariant-loop-left l = (l.left ≤ l.places) × (string_bytes l.initial.out ++ last_digits l.places l.number ≡ string_bytes l.out ++ last_digits l.left l.number)

abbrev pub decreases-loop-left : goal.decreases-loop-left
decreases-loop-left l = l.left

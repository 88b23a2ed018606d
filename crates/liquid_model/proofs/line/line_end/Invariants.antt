use Rattle.std.proofs.Common.{length, ◌-◌, ◌≡◌, ◌≤◌, true, take}
use Rattle.std.specs.List.{list_all}
use Rattle.liquid_model.specs.Quotes.{is_line_byte}
use Rattle.liquid_model.proofs.line.line_end.Given as goal

-- the bytes so far make a line
abbrev pub invariant-loop-end : goal.invariant-loop-end
invariant-loop-end l = (l.end ≤ length l.bytes) × (l.end ≤ l.most) × (list_all is_line_byte (take l.end l.bytes) ≡ true)

abbrev pub decreases-loop-end : goal.decreases-loop-end
decreases-loop-end l = length l.bytes - l.end

-- Parts of lists and texts by place.
use Rattle.std.specs.Prelude.{ℕ, ℤ, pos, negsuc, suc, ◌-◌, min, nat_le, List, [], take, drop}
use Rattle.std.specs.Prelude.{Option, Some, None, if◌then◌else◌}

-- the first place of a part of n places: an offset is at most n, and one below 0 counts from the
-- end; none where it stays below 0
abbrev pub start : ℕ → ℤ → Option ℕ
start n (pos z) = Some (min z n)
start n (negsuc z) = if nat_le (suc z) n then Some (n - suc z) else None

-- after the first ones, as many as count and as n allows
abbrev pub part_from : {X : Type 0} → ℕ → Option ℕ → ℕ → List X → List X
part_from n None count xs = []
part_from n (Some from) count xs = take (min count (n - from)) (drop from xs)

-- What a writer still grants a run: bytes of text, and turns.
--     Takes n old new      n of those left were taken; where there is no limit, there still is none
--     is_within_limit n left      at least n are left, or there is no limit
use Rattle.std.specs.Prelude.{◌≡◌, ℕ, ◌-◌, ◌≤◌, nat_le, Bool, true}
use Rattle.std.specs.Prelude.{Option, Some, None, is_some, Result, Ok, Err}
use Rattle.liquid_engine.specs.declared.limits.Limits.{Limits}
use Rattle.liquid_engine.specs.declared.limits.LimitReached.{LimitReached}
use Rattle.liquid_engine.specs.declared.limits.LimitReached.TheVariants.{Bytes, Turns}

-- no limit at all
abbrev pub unlimited : Limits
unlimited = record { bytes = None; turns = None }

abbrev pub is_within_limit : ℕ → Option ℕ → Bool
is_within_limit n None = true
is_within_limit n (Some left) = nat_le n left

-- this one is among these
abbrev pub is_limited_by : LimitReached → Limits → Bool
is_limited_by Bytes limits = is_some limits.bytes
is_limited_by Turns limits = is_some limits.turns

abbrev pub Takes : ℕ → Option ℕ → Option ℕ → Type 0
Takes n None new = new ≡ None
Takes n (Some left) new = (n ≤ left) × (new ≡ Some (left - n))

-- n turns were taken, and no byte
abbrev pub TakesTurns : ℕ → Limits → Limits → Type 0
TakesTurns n old new = Takes n old.turns new.turns × (new.bytes ≡ old.bytes)

-- n bytes were taken, and no turn
abbrev pub TakesBytes : ℕ → Limits → Limits → Type 0
TakesBytes n old new = Takes n old.bytes new.bytes × (new.turns ≡ old.turns)

-- a write takes the bytes that it answers, and none where it fails
abbrev pub WriteTakes : {E : Type 0} → Result ℕ E → Limits → Limits → Type 0
WriteTakes (Ok n) old new = TakesBytes n old new
WriteTakes (Err e) old new = new ≡ old

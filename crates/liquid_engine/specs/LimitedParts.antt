-- The parts of a writer within limits.
use Rattle.std.specs.Prelude.{◌≡◌, ℕ, ◌+◌, ◌-◌, ◌^◌, nat_eq, nat_lt, if◌then◌else◌}
use Rattle.std.specs.Prelude.{Option, Some, None}
use Rattle.liquid_engine.specs.Failures.{raised}
use Rattle.liquid_engine.specs.declared.limits.Limits.{Limits}
use Rattle.liquid_engine.specs.declared.limits.Limited.{Limited}
use Rattle.liquid_engine.specs.declared.limits.LimitReached.{LimitReached}

-- the sum of two counts of failures, up to the greatest value of a `u64`
abbrev pub both : ℕ → ℕ → ℕ
both n m = if nat_lt (n + m) (2 ^ 64 - 1) then n + m else (2 ^ 64 - 1)

module _ {W : Type 0} where
  abbrev pub limited_inner : Limited W → W
  limited_inner c = c.writer

  abbrev pub limited_left : Limited W → Limits
  limited_left c = c.left

  -- how often a limit refused something
  abbrev pub refusals : Limited W → ℕ
  refusals c = c.refusals

  -- how many writes failed: of the writer itself, and by a limit
  abbrev pub failures_of : (W → ℕ) → Limited W → ℕ
  failures_of failure_count c = both (failure_count c.writer) c.refusals

  -- the limit that refused something last, where one did
  abbrev pub reached : Limited W → Option LimitReached
  reached c = if nat_eq c.refusals 0 then None else Some c.last

  -- this limit refused something, and all else is as it was
  pub record Refuses (limit : LimitReached) (old new : Limited W) : Type 0 where
    pub inner : limited_inner new ≡ limited_inner old
    pub left : limited_left new ≡ limited_left old
    pub counted : refusals new ≡ raised (refusals old)
    pub limit_reached : reached new ≡ Some limit

-- What an output still comes to, in bytes and turns.
--     reserve_in left out      the bytes that its innermost buffer holds and those that its writer
--                              still grants, where bytes are limited
--     limited_in left out      whether bytes and turns are limited
use Rattle.std.specs.Prelude.{ℕ, ◌+◌, Bool, List, length, Option, Some, None, is_some}
use Rattle.std.specs.String.{string_bytes}
use Rattle.std.specs.Option.{option_map}
use Rattle.liquid_engine.specs.declared.limits.Limits.{Limits}
use Rattle.liquid_engine.specs.declared.output.Output.{Output}

abbrev pub bytes_held : Option (List ℕ) → ℕ
bytes_held None = 0
bytes_held (Some bytes) = length bytes

abbrev pub reserve_of : Option (List ℕ) → Option ℕ → ℕ
reserve_of buffer None = 0
reserve_of buffer (Some left) = bytes_held buffer + left

unfoldable pub reserve_in : {W : Type 0} → (W → Limits) → Output W → ℕ
reserve_in left out =
    reserve_of (option_map string_bytes out.buffer) (left out.writer.now).bytes

-- of bytes, and of turns
abbrev pub are_limited : Limits → Bool × Bool
are_limited limits = (is_some limits.bytes, is_some limits.turns)

unfoldable pub limited_in : {W : Type 0} → (W → Limits) → Output W → Bool × Bool
limited_in left out = are_limited (left out.writer.now)

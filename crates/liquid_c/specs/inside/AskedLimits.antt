-- What a caller in C asks for as a limit.
use Rattle.std.specs.Prelude.{ℕ, Option, Some, None, if◌then◌else◌, nat_eq}
use Rattle.liquid_c.specs.Calls.{any_number}

-- a number as a limit: the greatest is none
abbrev pub asked_limit : ℕ → Option ℕ
asked_limit asked = if nat_eq asked any_number then None else Some asked

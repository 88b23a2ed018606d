-- What an output writes to, and what is added to it.
use Rattle.std.specs.Prelude.{◌≡◌, ℕ, List, ◌++◌, Option, Some, None, IsSome, is_some}
use Rattle.std.specs.String.{string_bytes}
use Rattle.std.specs.Option.{option_map}
use Rattle.std.specs.Io.KnownBytes.{Appends}
use Rattle.liquid_engine.specs.declared.output.Output.{Output}

-- the innermost open buffer, the bytes that the caller's writer holds, where they are known, and
-- its count of failures
pub record Sink : Type 0 where
  pub buffer : Option (List ℕ)
  pub contents : Option (List ℕ)
  pub failures : ℕ

abbrev pub held_in : Option (List ℕ) → Option (List ℕ) → Option (List ℕ)
held_in (Some bytes) contents = Some bytes
held_in None contents = contents

-- what grows: the innermost open buffer, or what the caller's writer holds
abbrev pub growing_contents : Sink → Option (List ℕ)
growing_contents s = held_in s.buffer s.contents

abbrev pub sink_of : {W : Type 0} → (W → Option (List ℕ)) → (W → ℕ) → Output W → Sink
sink_of contents failure_count out = record {
  buffer = option_map string_bytes out.buffer;
  contents = contents out.writer.now;
  failures = failure_count out.writer.now;
}

-- text was added to the innermost open buffer, or to the caller's writer where none is open
pub record Adds (old new : Sink) (text : List ℕ) : Type 0 where
  pub added : Appends (growing_contents old) (growing_contents new) text
  pub same_place : is_some new.buffer ≡ is_some old.buffer
  -- while a buffer is open nothing reaches the caller's writer
  pub unwritten : IsSome old.buffer → new.contents ≡ old.contents

-- a beginning of text was added
pub record AddsPart (old new : Sink) (text : List ℕ) : Type 0 where
  pub front : List ℕ
  pub rest : List ℕ
  pub whole : front ++ rest ≡ text
  pub adds : Adds old new front

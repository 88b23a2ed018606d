use Rattle.std.proofs.Common.{◌≡◌, ◌++◌, string_bytes}
use Rattle.std.specs.Str.{IsUtf8}
use Rattle.liquid_commands.specs.Escapes.{escaped_for}
use Rattle.liquid_commands.proofs.escaped.push_escaped.Given as goal

-- what is written and what is left are the whole
abbrev pub invariant-loop-letter : goal.invariant-loop-letter
invariant-loop-letter l = IsUtf8 l.rest.rest.now × (string_bytes l.fn.out ++ escaped_for l.place l.text ≡ string_bytes l.out ++ escaped_for l.place l.rest.rest.now)

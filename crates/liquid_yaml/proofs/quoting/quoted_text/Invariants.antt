use Rattle.std.proofs.Common.{◌≡◌, string_bytes}
use Rattle.std.specs.Str.{IsUtf8}
use Rattle.liquid_yaml.specs.Quotings.{quoted_text}
use Rattle.liquid_yaml.proofs.Escapes.{Left}
use Rattle.liquid_yaml.proofs.quoting.quoted_text.Given as goal

-- what is read, before what the characters that are left show, is the whole
abbrev pub invariant-loop-letter : goal.invariant-loop-letter
invariant-loop-letter l = IsUtf8 l.rest.rest.now × (quoted_text l.quote l.text ≡ Left l.quote l.place (string_bytes l.read) l.rest.rest.now)

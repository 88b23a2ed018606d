use Rattle.std.proofs.Common.{◌≡◌, drop, map, string_bytes}
use Rattle.liquid_answers.specs.Tables.{is_listed_filter}
use Rattle.liquid_answers.proofs.answers.has_name.Given as goal

abbrev pub invariant-loop-known : goal.invariant-loop-known
invariant-loop-known l = is_listed_filter l.name (map string_bytes l.names) ≡ is_listed_filter l.name (map string_bytes (drop l.known-index l.names))

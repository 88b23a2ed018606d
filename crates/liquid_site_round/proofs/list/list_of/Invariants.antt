use Rattle.std.proofs.Common.{◌≡◌, ◌++◌, drop, string_bytes}
use Rattle.liquid_site_round.specs.WrittenNames.{list_text}
use Rattle.liquid_site_round.proofs.Names.{words}
use Rattle.liquid_site_round.proofs.list.list_of.Given as goal

-- what is there, and the names that are left, are the whole
abbrev pub invariant-loop-name : goal.invariant-loop-name
invariant-loop-name l = string_bytes l.text ++ list_text (words (drop l.name-index l.names)) ≡ list_text (words l.names)

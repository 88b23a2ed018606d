use Rattle.std.proofs.Common.{◌≡◌, ◌++◌, string_bytes}
use Rattle.liquid_language.specs.Entries.{seen}
use Rattle.liquid_site_round.specs.SiteWriting.{built_file_view, built_names}
use Rattle.liquid_site_round.specs.WrittenNames.{list_text}
use Rattle.liquid_site_round.proofs.list.push_names.Given as goal

-- what is there, and the names that are left, are the whole
abbrev pub invariant-loop-name : goal.invariant-loop-name
invariant-loop-name l = string_bytes l.text ++ list_text (built_names (seen built_file_view l.name-iterator)) ≡ string_bytes l.initial.text ++ list_text (built_names (seen built_file_view l.files.entries))

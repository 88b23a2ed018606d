use Rattle.std.proofs.Common.{IfSome, drop}
use Rattle.liquid_language.specs.Entries.{seen}
use Rattle.liquid_site_round.specs.SiteWriting.{built_file_view, removals}
use Rattle.liquid_site_round.proofs.Names.{words}
use Rattle.liquid_site_round.proofs.Setting.{Progress}
use Rattle.liquid_site_round.proofs.place.remove_files.Given as goal

-- files are gone so far, and the others are left
abbrev pub invariant-loop-name : goal.invariant-loop-name
invariant-loop-name g l =
    let files = seen built_file_view l.files.entries in
    IfSome (g.D.Disk.files l.initial.disk) (λ f. Progress (removals l.out files (words l.names)) (removals l.out files (words (drop l.name-index l.names))) f (g.D.Disk.files l.disk))

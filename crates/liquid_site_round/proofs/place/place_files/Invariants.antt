use Rattle.std.proofs.Common.{IfSome}
use Rattle.liquid_language.specs.Entries.{seen}
use Rattle.liquid_site_round.specs.SiteWriting.{built_file_view, placings}
use Rattle.liquid_site_round.proofs.Setting.{Progress}
use Rattle.liquid_site_round.proofs.place.place_files.Given as goal

-- files are in their places so far, and the others are left
abbrev pub invariant-loop-name : goal.invariant-loop-name
invariant-loop-name g l =
    let all = placings l.places.source.now l.places.out.now (seen built_file_view l.files.entries) in
    let left = placings l.places.source.now l.places.out.now (seen built_file_view l.name-iterator) in
    IfSome (g.D.Disk.files l.initial.disk) (λ f. Progress all left f (g.D.Disk.files l.disk))

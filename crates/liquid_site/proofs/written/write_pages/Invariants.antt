use Rattle.std.proofs.Common.{IfSome}
use Rattle.liquid_language.specs.Entries.{seen}
use Rattle.liquid_engine.specs.Pages.{page_view}
use Rattle.liquid_site.specs.Parts.{pages_in}
use Rattle.liquid_site.proofs.Disks.{Progress}
use Rattle.liquid_site.proofs.written.write_pages.Given as goal

-- what is left gives, over what is written, what the whole gives
abbrev pub invariant-loop-name : goal.invariant-loop-name
invariant-loop-name g l =
    let left = seen page_view l.name-iterator in
    IfSome (g.D.Disk.files l.initial.disk) (λ f. Progress l.out (pages_in l.pages) left l.written f (g.D.Disk.files l.disk))

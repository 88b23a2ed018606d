use Rattle.std.proofs.Common.{◌≡◌, ◌++◌, List, drop, IfSome}
use Rattle.liquid_site.specs.Contents.{Contents}
use Rattle.liquid_site.specs.SiteViews.{contents_of, language_of}
use Rattle.liquid_site.specs.Refusals.{AreRefusals}
use Rattle.liquid_site.specs.Taken.{AreTaken}
use Rattle.liquid_site.specs.declared.take.RefusedFile.{RefusedFile}
use Rattle.liquid_site.proofs.rounds.take_all.Given as goal

-- what is left, taken from here, is all, taken from the beginning; and what is reported of what is left, after what was reported so far, is the report of all
abbrev pub invariant-loop-changed : goal.invariant-loop-changed
invariant-loop-changed g l = record {
  language : language_of l.site ≡ language_of l.initial.site;
  taken : IfSome (g.D.Disk.files l.disk) (λ f. (d : Contents) → AreTaken (language_of l.initial.site) l.folder f (drop l.changed-index l.changes) (contents_of l.site) d → AreTaken (language_of l.initial.site) l.folder f l.changes (contents_of l.initial.site) d);
  reported : IfSome (g.D.Disk.files l.disk) (λ f. (rs : List RefusedFile) → AreRefusals (language_of l.initial.site) l.folder f (drop l.changed-index l.changes) rs → AreRefusals (language_of l.initial.site) l.folder f l.changes (l.refusals.items ++ rs));
}

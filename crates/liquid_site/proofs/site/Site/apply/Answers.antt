use Rattle.std.proofs.Common.{subst}
use Rattle.liquid_site.specs.Contents.{pages_from_scratch}
use Rattle.liquid_site.specs.PartViews.{site_parts_view}
use Rattle.liquid_site.specs.Parts.{by_name}
use Rattle.liquid_site.specs.ShownPages.{AreShown, IsWhole}
use Rattle.liquid_site.proofs.Shown.{shown_whole, whole_shown}
use Rattle.liquid_site.proofs.site.Site.apply.Goals as goal

pub apply-requires : goal.apply-requires
apply-requires c =
    let s = c.args.self.now in
    subst (λ ws. AreShown IsWhole ws (by_name s.parts.pages)) s.kept (whole_shown s.parts.pages.entries)

pub invariant_of-self : goal.invariant_of-self
invariant_of-self c =
    let new = c.apply.new.self in
    record { kept = shown_whole (pages_from_scratch (site_parts_view new).contents) new.pages.entries c.apply.ensures.keeps }

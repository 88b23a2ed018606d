use Rattle.std.proofs.Common.{ap, ◌∙◌}
use Rattle.liquid_core.specs.Held.{held}
use Rattle.liquid_language.specs.Entries.{seen}
use Rattle.liquid_syntax.specs.Templates.{tree_of, partials_of}
use Rattle.liquid_site.proofs.Entries.{seen_removed}
use Rattle.liquid_site.proofs.parts.SiteParts.remove_page.Goals as goal

pub returns-clause-removed : goal.returns-clause-removed
returns-clause-removed g c =
    let s = c.args.self.now in
    let taken = ap (seen tree_of) c.remove.ensures.entries ∙ seen_removed tree_of c.args.name.now s.templates.entries in
    λ i. record { setting = s.setting; pages = taken i; partials = partials_of s.partials; «data» = held s.«data» }

pub returns-clause-pages : goal.returns-clause-pages
returns-clause-pages g c = ap (seen (λ p. p)) c.remove-2.ensures.entries ∙ seen_removed (λ p. p) c.args.name.now c.args.self.now.pages.entries

use Rattle.std.proofs.Common.{sym, ap, ◌∙◌}
use Rattle.std.specs.Option.{option_copied_mut}
use Rattle.liquid_language.specs.Entries.{seen}
use Rattle.liquid_syntax.proofs.Held.{seen_placed}
use Rattle.liquid_site.specs.Parts.{by_name}
use Rattle.liquid_site.proofs.Entries.{placed_nowhere}
use Rattle.liquid_site.proofs.refresh.replace_page.Goals as goal

pub returns-in-Some : goal.returns-in-Some
returns-in-Some g c = ap (seen (λ p. p)) (c.get_mut.follows.holds c.args.page).0 ∙ seen_placed (λ p. p) c.args.name.now c.args.page c.args.pages.now.entries

pub returns-in-None : goal.returns-in-None
returns-in-None g c = ap by_name c.get_mut.follows.holds-at-none ∙ placed_nowhere (λ p. p) c.args.name.now c.args.page c.args.pages.now.entries (sym (ap option_copied_mut c.in-None.is) ∙ c.get_mut.ensures.value)

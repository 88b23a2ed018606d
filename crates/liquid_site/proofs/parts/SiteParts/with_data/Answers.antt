use Rattle.liquid_core.specs.Held.{held}
use Rattle.liquid_language.specs.Entries.{seen}
use Rattle.liquid_syntax.specs.Templates.{tree_of}
use Rattle.liquid_site.proofs.parts.SiteParts.with_data.Goals as goal

pub returns-clause-parts : goal.returns-clause-parts
returns-clause-parts g c = λ i. record {
  language = c.args.language;
  contents = record { setting = c.args.setting; pages = seen tree_of (c.new.ensures.empty i); partials = c.new-2.ensures i; «data» = held c.args.«data» };
  rendered = 0;
}

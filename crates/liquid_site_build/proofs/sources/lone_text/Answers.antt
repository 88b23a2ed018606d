use Rattle.std.proofs.Common.{refl, ap, ◌∙◌}
use Rattle.liquid_language.specs.Entries.{seen}
use Rattle.liquid_language.proofs.Inserted.{seen_inserted}
use Rattle.liquid_site_build.specs.SourceViews.{site_text_view}
use Rattle.liquid_site_build.proofs.sources.lone_text.Goals as goal

pub returns : goal.returns
returns c = ap (seen site_text_view) c.in_ok-insert.ensures.entries ∙ seen_inserted site_text_view c.new-texts.result.entries c.args.path c.args.text ∙ rw c.new-texts.ensures.empty refl

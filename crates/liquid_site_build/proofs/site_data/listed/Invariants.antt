use Rattle.std.proofs.Common.{◌≡◌, ◌++◌, map}
use Rattle.liquid_language.specs.Entries.{seen}
use Rattle.liquid_model.specs.Data.{object}
use Rattle.liquid_model.specs.View.{view}
use Rattle.liquid_site_build.specs.Built.{about}
use Rattle.liquid_site_build.specs.SourceViews.{site_text_view, site_texts_view}
use Rattle.liquid_site_build.proofs.site_data.listed.Given as goal

abbrev pub invariant-loop-path : goal.invariant-loop-path
invariant-loop-path l =
    map view l.items.items ++ map (λ d. object (about d)) (seen site_text_view l.path-iterator) ≡ map (λ d. object (about d)) (site_texts_view l.texts)

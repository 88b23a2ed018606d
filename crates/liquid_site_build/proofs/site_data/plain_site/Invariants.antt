use Rattle.std.proofs.Common.{◌≡◌}
use Rattle.liquid_language.specs.Entries.{seen}
use Rattle.liquid_model.specs.View.{pairs_view}
use Rattle.liquid_site_build.specs.Built.{about, put_collections}
use Rattle.liquid_site_build.specs.SourceViews.{site_texts_view}
use Rattle.liquid_site_build.proofs.site_data.plain_site.Given as goal

abbrev pub invariant-loop-name : goal.invariant-loop-name
invariant-loop-name l =
    put_collections about (seen site_texts_view l.name-iterator) (pairs_view l.site.entries) ≡ put_collections about (seen site_texts_view l.sources.collections.entries) (pairs_view l.sources.config.entries)

use Rattle.std.proofs.Common.{◌≡◌, map, drop, [], ap}
use Rattle.liquid_site_build.specs.SiteFiles.{named_after}
use Rattle.liquid_site_build.specs.SourceViews.{sources_view}
use Rattle.liquid_site_build.specs.Sources.{no_sources}
use Rattle.liquid_site_sources.specs.SourceFolders.{collection_folder_view}
use Rattle.liquid_site_sources.proofs.reading.empty_site.Given as goal

-- the collections so far, before those that are left, are all
abbrev pub invariant-loop-collection : goal.invariant-loop-collection
invariant-loop-collection l = record {
  others : sources_view l.sources ≡ no_sources l.fn.setting (sources_view l.sources).collections;
  named : named_after (sources_view l.sources).collections (map collection_folder_view (drop l.collection-index l.folders.collections.items)) ≡ named_after [] (map collection_folder_view l.folders.collections.items);
}

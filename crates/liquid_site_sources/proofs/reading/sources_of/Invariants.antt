use Rattle.std.proofs.Common.{map, drop}
use Rattle.liquid_site_build.specs.SiteFiles.{empty_site}
use Rattle.liquid_site_build.specs.SourceViews.{sources_view}
use Rattle.liquid_site_sources.specs.SourceFolders.{refused_source_view, site_file_view, site_form}
use Rattle.liquid_site_sources.proofs.Readings.{GoOn}
use Rattle.liquid_site_sources.proofs.reading.sources_of.Given as goal

-- what is left is read after what is read
abbrev pub invariant-loop-file : goal.invariant-loop-file
invariant-loop-file l =
    GoOn (site_form l.folders) l.language (map site_file_view l.files) (empty_site l.fn.setting (site_form l.folders)) (map refused_source_view l.refused.items)
    (map site_file_view (drop l.file-index l.files)) (sources_view l.sources)

use Rattle.std.proofs.Common.{map}
use Rattle.liquid_site_build.specs.SourceViews.{sources_view}
use Rattle.liquid_site_sources.specs.SourceFolders.{refused_source_view, site_form}
use Rattle.liquid_site_sources.proofs.Readings.{file_taken_at, files_read}
use Rattle.liquid_site_sources.proofs.reading.sources_of.Goals as goal

pub loop-file-preserved : goal.loop-file-preserved
loop-file-preserved c =
    file_taken_at (site_form c.args.folders.now) c.args.language.now _ _ (sources_view c.loop-file.sources) (sources_view c.take_next.new.sources) (map refused_source_view c.loop-file.refused.items) (map refused_source_view c.take_next.new.refused.items)
    c.args.files.now c.loop-file.file-index _ c.loop-file-test.true c.in_ok-take_next.ensures.adds c.loop-file.invariant

pub returns-clause-read : goal.returns-clause-read
returns-clause-read c =
    files_read (site_form c.args.folders.now) c.args.language.now _ _ (sources_view c.loop-file.sources) (map refused_source_view c.loop-file.refused.items) c.args.files.now c.loop-file.file-index
    c.loop-file-test.false c.loop-file.invariant

use Rattle.std.proofs.Common.{◌++◌, ◌∙◌}
use Rattle.std.proofs.lemmas.Result.{err_from_is_err_and}
use Rattle.liquid_language.specs.Entries.{seen}
use Rattle.liquid_site_round.specs.SiteWriting.{built_file_view, list_name}
use Rattle.liquid_site_round.proofs.Whole.{err_written, found_list, none_begun, nothing, nothing_set}
use Rattle.liquid_site_round.proofs.writing.write_site.Goals as goal

pub write_after-requires : goal.write_after-requires
write_after-requires g c = found_list _ (c.args.places.out.now ++ list_name) c.as_str.result.now c.read.result c.in-Ok.held c.in-Ok.is (c.as_str.ensures.value ∙ c.in_ok-path.ensures) c.read.ensures

pub returns-in_err-path-clause-written : goal.returns-in_err-path-clause-written
returns-in_err-path-clause-written g c =
    err_written _ c.args.places.source.now c.args.places.out.now (seen built_file_view c.args.files.now.entries) c.from_residual.result _ (err_from_is_err_and c.from_residual.result c.from_residual.ensures.1).1

pub returns-in_err-path-clause-begun : goal.returns-in_err-path-clause-begun
returns-in_err-path-clause-begun g c = none_begun _ c.args.places.source.now c.args.places.out.now (seen built_file_view c.args.files.now.entries) c.from_residual.result

pub returns-in-Err-Memory-clause-written : goal.returns-in-Err-Memory-clause-written
returns-in-Err-Memory-clause-written g c = nothing _

pub returns-in-Err-Memory-clause-begun : goal.returns-in-Err-Memory-clause-begun
returns-in-Err-Memory-clause-begun g c = nothing_set _ c.args.places.source.now c.args.places.out.now (seen built_file_view c.args.files.now.entries)

pub returns-in-Err-clause-written : goal.returns-in-Err-clause-written
returns-in-Err-clause-written g c = nothing _

pub returns-in-Err-clause-begun : goal.returns-in-Err-clause-begun
returns-in-Err-clause-begun g c = nothing_set _ c.args.places.source.now c.args.places.out.now (seen built_file_view c.args.files.now.entries)

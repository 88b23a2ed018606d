use Rattle.std.proofs.Common.{◌≡◌, ◌∙◌, Ok, ap, sym}
use Rattle.std.proofs.lemmas.Result.{err_from_is_err_and}
use Rattle.liquid_language.specs.Entries.{seen}
use Rattle.liquid_site_round.specs.SiteWriting.{BuiltFiles, built_file_view}
use Rattle.liquid_site_round.specs.WrittenNames.{names_listed, written_names_view}
use Rattle.liquid_site_round.proofs.Names.{words}
use Rattle.liquid_site_round.proofs.Whole.{as_begun, as_written, err_written, none_begun, none_written}
use Rattle.liquid_site_round.proofs.writing.write_after.Goals as goal

pub returns-in-Names-clause-written : goal.returns-in-Names-clause-written
returns-in-Names-clause-written g c =
    let fs : BuiltFiles = seen built_file_view c.args.files.now.entries in
    let names = sym (ap written_names_view c.in-Names.is) ∙ c.in_ok-names.ensures in
    as_written _ _ c.args.places.source.now c.args.places.out.now c.held_text.result.now fs c.args.held.now (words c.as_slice.result.now) c.write_listed.result c.requires c.held_text.ensures (ap (λ ns. Ok (words ns)) c.as_slice.ensures.value ∙ names) c.write_listed.ensures

pub returns-in-Names-clause-begun : goal.returns-in-Names-clause-begun
returns-in-Names-clause-begun g c =
    let fs : BuiltFiles = seen built_file_view c.args.files.now.entries in
    let names = sym (ap written_names_view c.in-Names.is) ∙ c.in_ok-names.ensures in
    as_begun _ _ c.args.places.source.now c.args.places.out.now c.held_text.result.now fs c.args.held.now (words c.as_slice.result.now) c.write_listed.result c.requires c.held_text.ensures (ap (λ ns. Ok (words ns)) c.as_slice.ensures.value ∙ names) c.write_listed.ensures

pub returns-in-Refused-clause-written : goal.returns-in-Refused-clause-written
returns-in-Refused-clause-written g c = none_written _ c.args.places.source.now c.args.places.out.now (seen built_file_view c.args.files.now.entries) c.bad_list.result c.bad_list.ensures

pub returns-in-Refused-clause-begun : goal.returns-in-Refused-clause-begun
returns-in-Refused-clause-begun g c = none_begun _ c.args.places.source.now c.args.places.out.now (seen built_file_view c.args.files.now.entries) c.bad_list.result

pub returns-in_err-names-clause-written : goal.returns-in_err-names-clause-written
returns-in_err-names-clause-written g c =
    err_written _ c.args.places.source.now c.args.places.out.now (seen built_file_view c.args.files.now.entries) c.from_residual.result _ (err_from_is_err_and c.from_residual.result c.from_residual.ensures.1).1

pub returns-in_err-names-clause-begun : goal.returns-in_err-names-clause-begun
returns-in_err-names-clause-begun g c = none_begun _ c.args.places.source.now c.args.places.out.now (seen built_file_view c.args.files.now.entries) c.from_residual.result

use Rattle.std.proofs.Common.{◌+◌, drop}
use Rattle.std.proofs.lemmas.Result.{err_from_is_err_and}
use Rattle.liquid_language.specs.Entries.{seen}
use Rattle.liquid_site_round.specs.SiteWriting.{BuiltFiles, built_file_view, removals}
use Rattle.liquid_site_round.proofs.Names.{words}
use Rattle.liquid_site_round.proofs.Setting.{ended, next_removal, went_on}
use Rattle.liquid_site_round.proofs.place.remove_files.Goals as goal

pub loop-name-preserved : goal.loop-name-preserved
loop-name-preserved g c =
    let out = c.args.out.now in
    let fs : BuiltFiles = seen built_file_view c.args.files.now.entries in
    let i = c.loop-name.name-index in
    went_on _ _ _ (removals out fs (words c.args.names.now)) (removals out fs (words (drop i c.args.names.now))) (removals out fs (words (drop (i + 1) c.args.names.now))) _ c.remove_unbuilt.result _
    (next_removal out fs c.args.names.now i _ c.loop-name-test.true) c.in_ok-remove_unbuilt.was c.loop-name.invariant c.remove_unbuilt.ensures

pub returns-in_err-remove_unbuilt : goal.returns-in_err-remove_unbuilt
returns-in_err-remove_unbuilt g c =
    let out = c.args.out.now in
    let fs : BuiltFiles = seen built_file_view c.args.files.now.entries in
    let i = c.loop-name.name-index in
    ended _ _ _ (removals out fs (words c.args.names.now)) (removals out fs (words (drop i c.args.names.now))) (removals out fs (words (drop (i + 1) c.args.names.now))) _ c.remove_unbuilt.result _ c.from_residual.result _
    (next_removal out fs c.args.names.now i _ c.loop-name-test.true) c.in_err-remove_unbuilt.was (err_from_is_err_and c.from_residual.result c.from_residual.ensures.1).1 c.loop-name.invariant c.remove_unbuilt.ensures

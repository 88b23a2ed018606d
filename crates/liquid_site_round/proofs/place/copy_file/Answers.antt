use Rattle.std.proofs.Common.{◌++◌, ◌∙◌}
use Rattle.std.proofs.lemmas.Result.{err_from_is_err_and}
use Rattle.liquid_site_round.proofs.Setting.{copied_file, kept_file}
use Rattle.liquid_site_round.proofs.place.copy_file.Goals as goal

pub returns-in_err-source : goal.returns-in_err-source
returns-in_err-source g c = kept_file _ _ _ _ _ (err_from_is_err_and c.from_residual.result c.from_residual.ensures.1).1

pub returns-in_err-path : goal.returns-in_err-path
returns-in_err-path g c = kept_file _ _ _ _ _ (err_from_is_err_and c.from_residual-in_err-path.result c.from_residual-in_err-path.ensures.1).1

pub returns : goal.returns
returns g c =
    copied_file _ _ _ (c.args.places.out.now ++ c.args.name.now) c.as_str-2.result.now (c.args.places.source.now ++ c.args.name.now) c.as_str.result.now c.copy-done.result c.settled.result (c.as_str-2.ensures.value ∙ c.in_ok-path.ensures)
    (c.as_str.ensures.value ∙ c.in_ok-source.ensures) c.settled.ensures c.copy-done.ensures

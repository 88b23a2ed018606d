use Rattle.std.proofs.Common.{◌++◌, ◌∙◌}
use Rattle.std.proofs.lemmas.Result.{err_from_is_err_and}
use Rattle.liquid_files.specs.Files.{gone}
use Rattle.liquid_site_round.proofs.Setting.{kept_file, settled_file}
use Rattle.liquid_site_round.proofs.place.remove_file.Goals as goal

pub returns-in_err-path : goal.returns-in_err-path
returns-in_err-path g c = kept_file _ _ _ _ _ (err_from_is_err_and c.from_residual.result c.from_residual.ensures.1).1

pub returns : goal.returns
returns g c =
    settled_file _ _ _ (c.args.out.now ++ c.args.name.now) c.as_str.result.now (λ _. gone) c.take_away-done.result c.settled.result (c.as_str.ensures.value ∙ c.in_ok-path.ensures) c.settled.ensures c.take_away-done.ensures

use Rattle.std.proofs.Common.{Ok, refl}
use Rattle.std.proofs.lemmas.Result.{err_from_is_err_and}
use Rattle.liquid_files.specs.declared.disk.DiskFault.{DiskFault}
use Rattle.liquid_files.specs.Files.{gone}
use Rattle.liquid_site_round.proofs.Setting.{gone_there, kept_file, set_already}
use Rattle.liquid_site_round.proofs.place.take_away.Goals as goal

pub returns-in_err-is_gone : goal.returns-in_err-is_gone
returns-in_err-is_gone g c = kept_file _ c.args.path.now (λ _. gone) _ _ (err_from_is_err_and c.from_residual.result c.from_residual.ensures.1).1

pub returns-then-branch : goal.returns-then-branch
returns-then-branch g c = set_already {E = DiskFault} _ c.args.path.now gone (Ok tt) tt refl (gone_there _ c.args.path.now _ c.in_ok-is_gone.ensures c.if-branch.true)

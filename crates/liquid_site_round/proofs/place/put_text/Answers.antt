use Rattle.std.proofs.Common.{Ok, refl}
use Rattle.std.proofs.lemmas.Result.{err_from_is_err_and}
use Rattle.liquid_files.specs.declared.disk.DiskFault.{DiskFault}
use Rattle.liquid_files.specs.Files.{holds}
use Rattle.liquid_site_round.proofs.Setting.{held_there, kept_file, set_already}
use Rattle.liquid_site_round.proofs.place.put_text.Goals as goal

pub returns-in_err-holds : goal.returns-in_err-holds
returns-in_err-holds g c = kept_file _ c.args.path.now (λ _. holds c.args.text.now) _ _ (err_from_is_err_and c.from_residual.result c.from_residual.ensures.1).1

pub returns-then-branch : goal.returns-then-branch
returns-then-branch g c = set_already {E = DiskFault} _ c.args.path.now (holds c.args.text.now) (Ok tt) tt refl (held_there _ c.args.path.now c.args.text.now _ c.in_ok-holds.ensures c.if-branch.true)

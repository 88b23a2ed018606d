use Rattle.liquid_model.proofs.UseViews.{found_use}
use Rattle.liquid_model.proofs.uses.member_of.Goals as goal

pub returns : goal.returns
returns c = found_use c.args.name.now c.args.members.now.entries c.get.result c.get.ensures.value

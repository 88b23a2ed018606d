use Rattle.liquid_json.proofs.NoMembers.{none_there}
use Rattle.liquid_json.proofs.schema.are_none.Goals as goal

pub returns : goal.returns
returns c = none_there c.is_empty.result c.args.members.now.entries c.is_empty.ensures

use Rattle.std.proofs.Common.{sym, ◌∙◌}
use Rattle.liquid_syntax.proofs.SetNames.{name_put, name_there}
use Rattle.liquid_syntax.proofs.names.add_name.Goals as goal

pub returns-in_ok-insert : goal.returns-in_ok-insert
returns-in_ok-insert c = name_put c.args.name.now c.in_ok-from_str.field-0 c.args.names.now c.insert.new.self c.in_ok-insert.ensures.updates c.in_ok-from_str.ensures.ok

pub returns-else-not-contains : goal.returns-else-not-contains
returns-else-not-contains c = name_there c.args.name.now c.args.names.now (sym c.if-not-contains.false ∙ c.contains.ensures)

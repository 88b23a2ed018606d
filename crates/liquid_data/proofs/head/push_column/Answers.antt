use Rattle.liquid_data.proofs.Places.{column_put}
use Rattle.liquid_data.proofs.head.push_column.Goals as goal

pub returns : goal.returns
returns c =
    column_put c.args.columns.now.names.items c.push.new.self.items c.args.columns.now.places c.insert.new.self c.in_ok-from_str.field-0 c.in_ok-from_str-2.field-0 c.args.name.now c.args.column
    c.in_ok-push.ensures.items c.in_ok-from_str.ensures.ok c.in_ok-from_str-2.ensures.ok c.in_ok-insert.ensures.updates

use Rattle.liquid_yaml.proofs.Cuts.{column_cut}
use Rattle.liquid_yaml.proofs.block.without_column.Goals as goal

pub range_from-requires : goal.range_from-requires
range_from-requires c positive = column_cut c.args.line.now c.args.column c.utf8.line c.requires

use Rattle.liquid_filters.proofs.Roundings.{read_err}
use Rattle.liquid_filters.proofs.stdlib.filters.math.decimal.size_of.Goals as goal

pub returns-in_default-2 : goal.returns-in_default-2
returns-in_default-2 c = read_err c.args.digits.now c.requires c.in_default.ensures.value.0

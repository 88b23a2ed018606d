use Rattle.std.proofs.Common.{arith}
use Rattle.liquid_filters.proofs.Roundings.{pow_pos10}
use Rattle.liquid_decimals.proofs.Beyond.{power_below}
use Rattle.liquid_decimals.proofs.bounds.power.Goals as goal

pub returns-clause-bound : goal.returns-clause-bound
returns-clause-bound c = omega (arith, c.pow.ensures, power_below c.args.exponent 18 c.requires)

pub returns-clause-positive : goal.returns-clause-positive
returns-clause-positive c = omega (arith, c.pow.ensures, pow_pos10 c.args.exponent)

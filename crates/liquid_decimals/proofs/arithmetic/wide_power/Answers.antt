use Rattle.std.proofs.Common.{arith}
use Rattle.liquid_decimals.proofs.Beyond.{power_below}
use Rattle.liquid_decimals.proofs.arithmetic.wide_power.Goals as goal

pub pow-requires : goal.pow-requires
pow-requires c = omega (arith, power_below c.args.exponent 36 c.requires)

pub returns-clause-bound : goal.returns-clause-bound
returns-clause-bound c = λ h. omega (arith, c.pow.ensures, power_below c.args.exponent 18 h)

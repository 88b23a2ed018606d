use Rattle.std.proofs.Common.{rules}
use Rattle.liquid_decimals.proofs.Beyond.{faulted, large_whole, large_fraction, of_parts}
use Rattle.liquid_decimals.proofs.reading.of_digits.Goals as goal

pub returns-in_default : goal.returns-in_default
returns-in_default c = faulted _ _ c.beyond.ensures (large_whole c.args.parts.negative c.args.parts.whole.now c.args.parts.fraction.now c.in_default.ensures)

pub returns-in_default-fraction_size : goal.returns-in_default-fraction_size
returns-in_default-fraction_size c = faulted _ _ c.beyond-in_default-fraction_size.ensures (large_fraction c.args.parts.negative c.args.parts.whole.now c.args.parts.fraction.now c.in_default-fraction_size.ensures)

pub returns : goal.returns
returns c = of_parts c.sized.result c.args.parts.negative c.args.parts.whole.now c.args.parts.fraction.now _ _ c.sized.ensures (search rules) (search rules)

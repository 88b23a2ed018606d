use Rattle.std.proofs.Common.{rules}
use Rattle.liquid_decimals.proofs.arithmetic.operated.Goals as goal

pub returns-in-Plus : goal.returns-in-Plus
returns-in-Plus c = rw c.in-Plus.is (search rules)

pub returns-in-Minus : goal.returns-in-Minus
returns-in-Minus c = rw c.in-Minus.is (search rules)

pub returns-in-Times : goal.returns-in-Times
returns-in-Times c = rw c.in-Times.is (search rules)

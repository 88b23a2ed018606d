use Rattle.std.proofs.Common.{rules}
use Rattle.liquid_filters.proofs.stdlib.filters.math.arithmetic.product.Goals as goal

pub returns-clause-answer : goal.returns-clause-answer
returns-clause-answer c = search rules

use Rattle.std.proofs.Common.{rules}
use Rattle.liquid_filters.proofs.Decimals.{all_digits}
use Rattle.liquid_filters.proofs.stdlib.filters.math.decimal.is_numeral.Goals as goal

pub returns-then-not-is_empty : goal.returns-then-not-is_empty
returns-then-not-is_empty c = search (rules, all_digits)

use Rattle.std.proofs.Common.{None, arith}
use Rattle.std.proofs.lemmas.Str.Pattern.{strip_prefix_char}
use Rattle.liquid_filters.proofs.Decimals.{cut_none}
use Rattle.liquid_filters.proofs.stdlib.filters.math.decimal.unsigned.Goals as goal

pub returns : goal.returns
returns c = cut_none _ (strip_prefix_char 45 c.args.text.now None c.in_default.ensures.cases (omega arith)) (strip_prefix_char 43 c.args.text.now None c.in_default-strip_prefix.ensures.cases (omega arith))

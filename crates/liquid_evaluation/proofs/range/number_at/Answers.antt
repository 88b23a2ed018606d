use Rattle.std.proofs.Common.{arith}
use Rattle.std.proofs.lemmas.Int.{ints}
use Rattle.liquid_evaluation.proofs.RangeParts.{number_shown, no_number}
use Rattle.liquid_evaluation.proofs.range.number_at.Goals as goal

pub returns-then-number-last : goal.returns-then-number-last
returns-then-number-last c = number_shown _ c.args.first c.args.last c.args.place (omega (arith, ints)) (omega (arith, ints))

pub returns-else-number-last : goal.returns-else-number-last
returns-else-number-last c = no_number c.args.first c.args.last c.args.place (omega (arith, ints))

use Rattle.std.proofs.Common.{arith}
use Rattle.std.proofs.lemmas.Int.{ints}
use Rattle.liquid_evaluation.proofs.Ranges.{count_up}
use Rattle.liquid_evaluation.proofs.range.count_to.Goals as goal

pub returns-then-first-last : goal.returns-then-first-last
returns-then-first-last c = count_up c.args.first c.args.last _ (omega (arith, ints)) (omega (arith, ints))

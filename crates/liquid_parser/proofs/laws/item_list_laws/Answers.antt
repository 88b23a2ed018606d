use Rattle.liquid_parser.proofs.ItemLaws.{values_takes, values_again, loop_takes, loop_again, pairs_takes, pairs_again}
use Rattle.liquid_parser.proofs.laws.item_list_laws.Goals as goal

pub returns-clause-values : goal.returns-clause-values
returns-clause-values c = λ s xs ts. (values_takes s xs ts, values_again s xs ts)

pub returns-clause-loops : goal.returns-clause-loops
returns-clause-loops c = λ k h ts. (loop_takes k h ts, loop_again k h ts)

pub returns-clause-pairs : goal.returns-clause-pairs
returns-clause-pairs c = λ k ps ts. (pairs_takes k ps ts, pairs_again k ps ts)

use Rattle.std.proofs.Common.{arith}
use Rattle.std.proofs.lemmas.Bool.Decides.{nat_tests}
use Rattle.liquid_parser.proofs.CycleLaws.{name_seen}
use Rattle.liquid_parser.proofs.cycle_items.is_name.Goals as goal

pub returns-in-Variable : goal.returns-in-Variable
returns-in-Variable c =
    name_seen c.args.value.now c.in-Variable.variable c.is_empty.result c.in-Variable.is (λ e. grind (arith, nat_tests, e, c.is_empty.ensures)) (λ e. grind (arith, nat_tests, e, c.is_empty.ensures))

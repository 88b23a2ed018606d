use Rattle.liquid_parser.proofs.StatementLaws.{statement_says, statement_stands, stands_of}
use Rattle.liquid_parser.proofs.laws.statement_law.Goals as goal

pub returns : goal.returns
returns c = λ l x p statement f. (statement_stands l x p statement (stands_of statement f), statement_says l x p statement)

use Rattle.liquid_lexer.proofs.ValueLaws.{value_takes, value_again}
use Rattle.liquid_lexer.proofs.laws.value_laws.Goals as goal

pub returns-clause-read : goal.returns-clause-read
returns-clause-read c = λ d bs rest x h. value_takes d bs (x, rest) h

pub returns-clause-standing : goal.returns-clause-standing
returns-clause-standing c = λ d bs rest x h. value_again h

use Rattle.std.proofs.Common.{length, arith}
use Rattle.liquid_lexer.proofs.ItemLaws.{items_takes, items_again}
use Rattle.liquid_lexer.proofs.laws.item_laws.Goals as goal

pub returns-clause-read : goal.returns-clause-read
returns-clause-read c = λ k is d bs rest h. items_takes k (length bs) bs (is, d, rest) h

pub returns-clause-standing : goal.returns-clause-standing
returns-clause-standing c = λ k is d bs rest h. items_again h (length bs) (omega arith)

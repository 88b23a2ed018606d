use Rattle.std.proofs.Common.{length, arith, false}
use Rattle.liquid_lexer.proofs.SourceLaws.{source_takes, source_again, items_only, items_styled}
use Rattle.liquid_lexer.proofs.laws.source_laws.Goals as goal

pub returns-clause-read : goal.returns-clause-read
returns-clause-read c = λ style wants step s x bs h. source_takes style wants step (length bs) false s bs x h

pub returns-clause-standing : goal.returns-clause-standing
returns-clause-standing c = λ style wants step s x bs ps agrees is h. source_again style wants step agrees is (length bs) (omega arith) s x h

pub returns-clause-items : goal.returns-clause-items
returns-clause-items c = λ style front ps bs items. (items_only style items front ps bs, items_styled style items front ps bs)

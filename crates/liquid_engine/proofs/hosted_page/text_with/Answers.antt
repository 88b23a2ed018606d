use Rattle.std.proofs.Common.{rules}
use Rattle.liquid_engine.proofs.Reserves.{text_bounded, text_limited}
use Rattle.liquid_engine.proofs.hosted_page.text_with.Goals as goal

pub returns-clause-bounded : goal.returns-clause-bounded
returns-clause-bounded g c =
    text_bounded g.W.CountedWrite.left _ c.run_with_borrowed_data-answer.new.out c.close-text.result c.writer-1.given.0 c.run_with_borrowed_data-answer.ensures.bounded (search rules) c.close-text.ensures.text (search rules)

pub returns-clause-limited : goal.returns-clause-limited
returns-clause-limited g c = text_limited g.W.CountedWrite.left _ c.run_with_borrowed_data-answer.new.out c.close-text.result c.writer-1.given.0 c.run_with_borrowed_data-answer.ensures.limited (search rules)

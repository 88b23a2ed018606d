use Rattle.std.proofs.Common.{length, arith}
use Rattle.liquid_lexer.proofs.MarkLaws.{raw_takes, raw_again}
use Rattle.liquid_lexer.proofs.CommentLaws.{comment_takes, comment_again}
use Rattle.liquid_lexer.proofs.laws.verbatim_laws.Goals as goal

pub returns-clause-read_raw : goal.returns-clause-read_raw
returns-clause-read_raw c = λ bs rest t m h. raw_takes bs (t, m, rest) h

pub returns-clause-standing_raw : goal.returns-clause-standing_raw
returns-clause-standing_raw c = λ bs rest t before after h. raw_again h

pub returns-clause-read_comment : goal.returns-clause-read_comment
returns-clause-read_comment c = λ bs rest after h. comment_takes (length bs) 0 bs (after, rest) h

pub returns-clause-standing_comment : goal.returns-clause-standing_comment
returns-clause-standing_comment c = λ bs rest after h. comment_again h (length bs) (omega arith)

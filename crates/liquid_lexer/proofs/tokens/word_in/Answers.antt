use Rattle.std.proofs.Common.{arith}
use Rattle.liquid_lexer.proofs.PlainWords.{is_word, no_word}
use Rattle.liquid_lexer.proofs.tokens.word_in.Goals as goal

pub returns : goal.returns
returns c = no_word c.args.value c.in-Variable.variable c.in-Variable.is (λ e. grind (arith, e, c.if-is_empty.false, c.is_empty.ensures))

pub returns-then-is_empty : goal.returns-then-is_empty
returns-then-is_empty c = is_word c.args.value c.in-Variable.variable c.in-Variable.is (grind (arith, c.if-is_empty.true, c.is_empty.ensures))

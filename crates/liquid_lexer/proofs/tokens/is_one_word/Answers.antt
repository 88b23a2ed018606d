use Rattle.std.proofs.Common.{ap, arith}
use Rattle.std.specs.Prelude.{is_some}
use Rattle.liquid_lexer.proofs.PlainWords.{is_word, no_word}
use Rattle.liquid_lexer.proofs.tokens.is_one_word.Goals as goal

pub returns-then-not-is_empty : goal.returns-then-not-is_empty
returns-then-not-is_empty c = ap is_some (no_word c.args.value.now c.in-Variable.variable c.in-Variable.is (λ e. grind (arith, e, c.if-not-is_empty.true, c.is_empty.ensures)))

pub returns-else-not-is_empty : goal.returns-else-not-is_empty
returns-else-not-is_empty c = ap is_some (is_word c.args.value.now c.in-Variable.variable c.in-Variable.is (grind (arith, c.if-not-is_empty.false, c.is_empty.ensures)))

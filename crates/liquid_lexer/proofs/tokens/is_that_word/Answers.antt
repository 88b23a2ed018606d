use Rattle.std.proofs.Common.{ap, ◌∙◌, arith}
use Rattle.liquid_lexer.specs.Tokens.{is_that}
use Rattle.liquid_lexer.proofs.PlainWords.{no_word}
use Rattle.liquid_lexer.proofs.tokens.is_that_word.Goals as goal

pub returns-else-is_empty : goal.returns-else-is_empty
returns-else-is_empty c =
    c.if-is_empty.false ∙ ap (is_that c.args.word.now) (no_word c.args.value.now c.in-Variable.variable c.in-Variable.is (λ e. grind (arith, e, c.if-is_empty.false, c.is_empty.ensures)))

use Rattle.std.proofs.Common.{◌++◌, ◌∙◌, length, ap, sym, arith}
use Rattle.std.proofs.lemmas.Bool.Decides.{nat_tests}
use Rattle.std.specs.Char.{encode_utf8}
use Rattle.liquid_filters.proofs.Slugs.{last_before, last_other, last_none}
use Rattle.liquid_filters.proofs.jekyll.slugify.before_hyphen.Goals as goal

pub returns-then-letter-eq45 : goal.returns-then-letter-eq45
returns-then-letter-eq45 c =
    last_before c.args.text.now c.as_str-rest.result.now c.in-Some.letter c.utf8.text c.as_str-rest.utf8
    (sym c.chars-letters.ensures.rest ∙ c.in-Some.ensures.steps ∙ ap (λ t. t ++ encode_utf8 c.in-Some.letter) (sym c.as_str-rest.ensures)) c.if-letter-eq45.true

pub returns-else-letter-eq45 : goal.returns-else-letter-eq45
returns-else-letter-eq45 c =
    last_other c.args.text.now c.as_str-rest.result.now c.in-Some.letter c.utf8.text c.as_str-rest.utf8
    (sym c.chars-letters.ensures.rest ∙ c.in-Some.ensures.steps ∙ ap (λ t. t ++ encode_utf8 c.in-Some.letter) (sym c.as_str-rest.ensures))
    (grind (arith, nat_tests, c.if-letter-eq45.false))

pub returns-in-None : goal.returns-in-None
returns-in-None c = last_none c.args.text.now (ap (λ s. length s) (sym c.chars-letters.ensures.rest) ∙ c.in-None.ensures.steps.0)

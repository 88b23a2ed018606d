use Rattle.std.proofs.Common.{◌++◌, ◌∙◌, length, ap, sym, arith}
use Rattle.std.proofs.lemmas.Bool.Decides.{nat_tests}
use Rattle.std.specs.Char.{encode_utf8}
use Rattle.liquid_filters.proofs.Slugs.{first_past, first_other, first_none}
use Rattle.liquid_filters.proofs.jekyll.slugify.past_hyphen.Goals as goal

pub returns-then-letter-eq45 : goal.returns-then-letter-eq45
returns-then-letter-eq45 c =
    first_past c.args.text.now c.as_str-rest.result.now c.in-Some.letter c.utf8.text
    (sym c.chars-letters.ensures.rest ∙ c.in-Some.ensures.steps.0 ∙ ap (λ t. encode_utf8 c.in-Some.letter ++ t) (sym c.as_str-rest.ensures)) c.if-letter-eq45.true

pub returns-else-letter-eq45 : goal.returns-else-letter-eq45
returns-else-letter-eq45 c =
    first_other c.args.text.now c.next.new.self.rest.now c.in-Some.letter c.utf8.text (sym c.chars-letters.ensures.rest ∙ c.in-Some.ensures.steps.0) (grind (arith, nat_tests, c.if-letter-eq45.false))

pub returns-in-None : goal.returns-in-None
returns-in-None c = first_none c.args.text.now (ap (λ s. length s) (sym c.chars-letters.ensures.rest) ∙ c.in-None.ensures.steps.0.0)

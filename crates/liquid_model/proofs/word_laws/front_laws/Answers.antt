use Rattle.liquid_model.proofs.WordLaws.{blank_takes, blank_again, word_takes, word_again}
use Rattle.liquid_model.proofs.WordLaws.{quoted_takes, quoted_again, number_takes, number_again}
use Rattle.liquid_model.proofs.word_laws.front_laws.Goals as goal

pub returns-clause-read_word : goal.returns-clause-read_word
returns-clause-read_word c = λ w bs rest h. word_takes bs (w, rest) h

pub returns-clause-standing_word : goal.returns-clause-standing_word
returns-clause-standing_word c = word_again

pub returns-clause-read_quoted : goal.returns-clause-read_quoted
returns-clause-read_quoted c = λ s bs rest h. quoted_takes bs (s, rest) h

pub returns-clause-standing_quoted : goal.returns-clause-standing_quoted
returns-clause-standing_quoted c = quoted_again

pub returns-clause-read_number : goal.returns-clause-read_number
returns-clause-read_number c = λ n bs rest h. number_takes bs (n, rest) h

pub returns-clause-standing_number : goal.returns-clause-standing_number
returns-clause-standing_number c = number_again

pub returns-clause-passed_blank : goal.returns-clause-passed_blank
returns-clause-passed_blank c = blank_takes

pub returns-clause-standing_blank : goal.returns-clause-standing_blank
returns-clause-standing_blank c = blank_again

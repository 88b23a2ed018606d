-- The words of a text: its longest parts without white space, which is that of ASCII.
use Rattle.std.specs.Prelude.{ℕ, List, [], ◌∷◌, ◌++◌, length, Ok, codes, if◌then◌else◌}
use Rattle.std.specs.Char.{is_ascii_whitespace}
use Rattle.liquid_model.specs.Data.{Datum, text_of}
use Rattle.liquid_model.specs.Find.{counted}
use Rattle.liquid_model.specs.Texts.{Text}
use Rattle.liquid_model.specs.Arguments.{Answer}
use Rattle.liquid_model.specs.Joined.{joined}
use Rattle.liquid_model.specs.Text.{of_text}

-- the words, with that which ends here before them, if there is one
abbrev pub with_finished_word : Text → List Text → List Text
with_finished_word [] ws = ws
with_finished_word (b ∷ w) ws = (b ∷ w) ∷ ws

-- the words of a text, of which the first has begun with these bytes
abbrev pub words_after : Text → Text → List Text
words_after w [] = with_finished_word w []
words_after w (b ∷ s) = if is_ascii_whitespace b then with_finished_word w (words_after [] s) else
    words_after
    (w ++ b ∷ []) s

abbrev pub words : Text → List Text
words = words_after []

-- `normalize_whitespace`: the words with a space between each and the next
abbrev pub normalized : Text → Text
normalized s = joined (codes " ") (words s)

abbrev pub normalize_whitespace_answer : Datum → List Datum → Answer
normalize_whitespace_answer = of_text normalized

-- `number_of_words`
abbrev pub number_of_words_answer : Datum → List Datum → Answer
number_of_words_answer d args = Ok (counted (length (words (text_of d))))

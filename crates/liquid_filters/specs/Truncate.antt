-- The filters `truncate` and `truncatewords`.
use Rattle.std.specs.Prelude.{ℕ, ℤ, pos, negsuc, ◌-◌, true, List, ◌++◌, length, take, drop, nat_lt}
use Rattle.std.specs.Prelude.{codes, Ok, if◌then◌else◌}
use Rattle.std.specs.List.{concat}
use Rattle.unicode_segmentation.specs.Grapheme.{graphemes}
use Rattle.liquid_model.specs.Data.{Datum, text, text_of}
use Rattle.liquid_model.specs.Fallible.{◌>>=◌}
use Rattle.liquid_model.specs.Texts.{Text}
use Rattle.liquid_model.specs.Arguments.{Answer, text_or}
use Rattle.liquid_model.specs.Joined.{joined}
use Rattle.liquid_filters.specs.Arguments.{whole_or}
use Rattle.liquid_filters.specs.Pieces.{pieces}

-- the first grapheme clusters, as many as there are
abbrev pub first_clusters : ℕ → Text → Text
first_clusters n s = concat (take n (graphemes true s))

-- where n is below the bytes of the text: the first clusters, fewer by the bytes of the end, and
-- then the end. A number below 0 is huge
abbrev pub truncated : Datum → Text → ℤ → Datum
truncated d end (pos n) =
    if nat_lt n (length (text_of d)) then text (first_clusters (n - length end) (text_of d) ++
    end) else d
truncated d end (negsuc n) = d

abbrev pub truncate_answer : Datum → List Datum → Answer
truncate_answer d args =
    whole_or (pos 50) args >>= (λ n. Ok (truncated d (text_or (codes "...") (drop 1 args)) n))

-- the pieces parted by single spaces
abbrev pub words_of : Text → List Text
words_of s = pieces (codes " ") 0 s

-- the first words
abbrev pub first_words : ℕ → Text → Text
first_words n s = joined (codes " ") (take n (words_of s))

-- where n is below the count of words: the first ones, and then the end. A number below 0 is huge
abbrev pub words_truncated : Datum → Text → ℤ → Datum
words_truncated d end (pos n) = if nat_lt n (length (words_of (text_of d))) then text
    (first_words n (text_of d) ++ end) else d
words_truncated d end (negsuc n) = d

abbrev pub truncatewords_answer : Datum → List Datum → Answer
truncatewords_answer d args =
    whole_or (pos 50) args >>= (λ n. Ok (words_truncated d (text_or (codes "...") (drop 1 args)) n))

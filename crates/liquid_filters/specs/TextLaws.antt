-- What each filter's answer is, said without the filter: the relation that holds of it and of
-- nothing else. Where characters matter it is said of values, whose texts are UTF-8.
use Rattle.std.specs.Prelude.{◌≡◌, ℕ, zero, suc, ◌-◌, ◌<◌, ◌≤◌, ◌⊎◌, true, ℤ, pos, negsuc, List, []}
use Rattle.std.specs.Prelude.{◌∷◌, ◌++◌, length, drop, codes, Result, Ok, Err}
use Rattle.std.specs.Char.{to_ascii_lowercase, to_ascii_uppercase}
use Rattle.std.specs.List.{concat}
use Rattle.std.specs.Str.{chars, encode_utf8_all}
use Rattle.unicode_segmentation.specs.Grapheme.{graphemes}
use Rattle.liquid_model.specs.Answer.{IsTheOne}
use Rattle.liquid_model.specs.Data.{Datum, text, array, text_of}
use Rattle.liquid_model.specs.Lists.{list_of}
use Rattle.liquid_model.specs.Texts.{Text}
use Rattle.liquid_model.specs.View.{items_of, view}
use Rattle.liquid_model.specs.declared.value.Value.{Value}
use Rattle.liquid_model.specs.declared.error.ErrorKind.{ErrorKind}
use Rattle.liquid_model.specs.declared.error.ErrorKind.TheVariants.{InvalidArgument}
use Rattle.liquid_model.specs.Arguments.{Answer, text_or}
use Rattle.liquid_model.specs.Joined.{joined}
use Rattle.liquid_model.specs.Text.{Makes, Texts}
use Rattle.liquid_filters.specs.Arguments.{whole_or}
use Rattle.liquid_filters.specs.Case.{capitalize_answer, downcase_answer, upcase_answer}
use Rattle.liquid_filters.specs.Occurrences.{ArePieces, Replaces, ReplacesFirst, Splits}
use Rattle.liquid_filters.specs.Operate.{remove_answer, remove_first_answer, replace_answer}
use Rattle.liquid_filters.specs.Operate.{replace_first_answer}
use Rattle.liquid_filters.specs.Parts.{AreFirst, IsPart}
use Rattle.liquid_filters.specs.Slice.{slice_answer}
use Rattle.liquid_filters.specs.TextSpelling.{Capitalizes, MapsCharacters, StripsEnd, StripsEnds}
use Rattle.liquid_filters.specs.TextSpelling.{StripsNewlines, StripsStart}
use Rattle.liquid_filters.specs.Split.{split_answer, texts}
use Rattle.liquid_filters.specs.Strip.{lstrip_answer, rstrip_answer, strip_answer}
use Rattle.liquid_filters.specs.Strip.{strip_newlines_answer}
use Rattle.liquid_filters.specs.Truncate.{truncate_answer, truncatewords_answer}

-- where a number was read R holds of it and the answer, else the fault is the answer
abbrev pub ReadThen : Result ℤ ErrorKind → (ℤ → Answer → Type 0) → Answer → Type 0
ReadThen (Ok z) R a = R z a
ReadThen (Err kind) R a = a ≡ Err kind

-- ---- pieces
-- the empty text has no pieces
abbrev pub Divides : Text → Text → List Text → Type 0
Divides p [] ps = ps ≡ []
Divides p (b ∷ s) ps = Splits p (b ∷ s) ps

-- `split`: the pieces between the occurrences of the argument
abbrev pub SplitsText : Datum → List Datum → Answer → Type 0
SplitsText d args = Makes (λ ps. Ok (texts ps)) (Divides (text_or [] args) (text_of d))

abbrev pub SplitIsOne : Type 0
SplitIsOne = (input : Value) (args : List Datum) →
    IsTheOne (SplitsText (view input) args) (split_answer (view input) args)

-- `replace`: the second argument in place of each occurrence of the first
abbrev pub ReplacesAll : Datum → List Datum → Answer → Type 0
ReplacesAll d args = Texts (Replaces (text_or [] args) (text_or [] (drop 1 args)) (text_of d))

abbrev pub ReplaceIsOne : Type 0
ReplaceIsOne = (input : Value) (args : List Datum) →
    IsTheOne (ReplacesAll (view input) args) (replace_answer (view input) args)

-- `remove`: nothing in place of each occurrence of the argument
abbrev pub RemovesAll : Datum → List Datum → Answer → Type 0
RemovesAll d args = Texts (Replaces (text_or [] args) [] (text_of d))

abbrev pub RemoveIsOne : Type 0
RemoveIsOne = (input : Value) (args : List Datum) →
    IsTheOne (RemovesAll (view input) args) (remove_answer (view input) args)

-- `replace_first`: the second argument in place of the first occurrence of the first
abbrev pub ReplacesOne : Datum → List Datum → Answer → Type 0
ReplacesOne d args = Texts (ReplacesFirst (text_or [] args) (text_or [] (drop 1 args)) (text_of d))

abbrev pub ReplaceFirstIsOne : Type 0
ReplaceFirstIsOne = (d : Datum) (args : List Datum) →
    IsTheOne (ReplacesOne d args) (replace_first_answer d args)

-- `remove_first`: nothing in place of the first occurrence of the argument
abbrev pub RemovesOne : Datum → List Datum → Answer → Type 0
RemovesOne d args = Texts (ReplacesFirst (text_or [] args) [] (text_of d))

abbrev pub RemoveFirstIsOne : Type 0
RemoveFirstIsOne = (d : Datum) (args : List Datum) →
    IsTheOne (RemovesOne d args) (remove_first_answer d args)

-- ---- places
-- of a list a part of its items, of anything else a part of its text's characters, of as many
-- places as there are bytes
abbrev pub TakesPart : ℤ → ℕ → Datum → Answer → Type 0
TakesPart offset count (array ds) =
    Makes (λ out. Ok (array (items_of out))) (IsPart (length (list_of ds)) offset count
    (list_of ds))
TakesPart offset count d = Makes (λ cs. Ok (text (encode_utf8_all cs)))
    (IsPart (length (text_of d)) offset count (chars (text_of d)))

abbrev pub Slices : Datum → ℤ → ℤ → Answer → Type 0
Slices d offset (pos zero) a = a ≡ Err InvalidArgument
Slices d offset (pos (suc n)) a = TakesPart offset (suc n) d a
Slices d offset (negsuc n) a = a ≡ Err InvalidArgument

-- `slice`: from an offset on, as many places as the length says
abbrev pub SlicesInput : Datum → List Datum → Answer → Type 0
SlicesInput d args = ReadThen (whole_or (pos 0) args)
    (λ offset. ReadThen (whole_or (pos 1) (drop 1 args)) (Slices d offset))

abbrev pub SliceIsOne : Type 0
SliceIsOne = (d : Datum) (args : List Datum) → IsTheOne (SlicesInput d args) (slice_answer d args)

-- ---- beginnings
-- the first n grapheme clusters of s, and then the end
abbrev pub KeepsClusters : ℕ → Text → Text → Text → Type 0
KeepsClusters n end s t = (kept : List Text) × AreFirst n (graphemes true s) kept ×
    (t ≡ concat kept ++ end)

abbrev pub Truncates : Datum → Text → ℤ → Answer → Type 0
Truncates d end (pos n) a =
    ((n < length (text_of d)) × Texts (KeepsClusters (n - length end) end (text_of d)) a) ⊎
    ((length (text_of d) ≤ n) × (a ≡ Ok d))
Truncates d end (negsuc n) a = a ≡ Ok d

-- `truncate`: the first clusters and the end, or the input
abbrev pub TruncatesText : Datum → List Datum → Answer → Type 0
TruncatesText d args =
    ReadThen (whole_or (pos 50) args) (Truncates d (text_or (codes "...") (drop 1 args)))

abbrev pub TruncateIsOne : Type 0
TruncateIsOne = (d : Datum) (args : List Datum) →
    IsTheOne (TruncatesText d args) (truncate_answer d args)

-- the first n words of ws, with a space between each and the next, and then the end
abbrev pub KeepsWords : ℕ → Text → List Text → Text → Type 0
KeepsWords n end ws t = (kept : List Text) × AreFirst n ws kept ×
    (t ≡ joined (codes " ") kept ++ end)

-- the words are the pieces parted by single spaces
abbrev pub TruncatesWords : Datum → Text → ℤ → Answer → Type 0
TruncatesWords d end (pos n) a = (ws : List Text) × ArePieces (codes " ") ws (text_of d)
    × (((n < length ws) × Texts (KeepsWords n end ws) a) ⊎ ((length ws ≤ n) × (a ≡ Ok d)))
TruncatesWords d end (negsuc n) a = a ≡ Ok d

-- `truncatewords`: the first words and the end, or the input
abbrev pub TruncatesTextByWords : Datum → List Datum → Answer → Type 0
TruncatesTextByWords d args =
    ReadThen (whole_or (pos 50) args) (TruncatesWords d (text_or (codes "...") (drop 1 args)))

abbrev pub TruncateWordsIsOne : Type 0
TruncateWordsIsOne = (d : Datum) (args : List Datum) →
    IsTheOne (TruncatesTextByWords d args) (truncatewords_answer d args)

-- ---- characters
-- `downcase`: each character of the text in lower case
abbrev pub Downcases : Datum → List Datum → Answer → Type 0
Downcases d args = Texts (MapsCharacters to_ascii_lowercase (text_of d))

abbrev pub DowncaseIsOne : Type 0
DowncaseIsOne = (input : Value) (args : List Datum) →
    IsTheOne (Downcases (view input) args) (downcase_answer (view input) args)

-- `upcase`: each character of the text in upper case
abbrev pub Upcases : Datum → List Datum → Answer → Type 0
Upcases d args = Texts (MapsCharacters to_ascii_uppercase (text_of d))

abbrev pub UpcaseIsOne : Type 0
UpcaseIsOne = (input : Value) (args : List Datum) →
    IsTheOne (Upcases (view input) args) (upcase_answer (view input) args)

-- `capitalize`: the first character of the text in upper case
abbrev pub CapitalizesText : Datum → List Datum → Answer → Type 0
CapitalizesText d args = Texts (Capitalizes (text_of d))

abbrev pub CapitalizeIsOne : Type 0
CapitalizeIsOne = (input : Value) (args : List Datum) → IsTheOne (CapitalizesText (view input) args)
    (capitalize_answer (view input) args)

-- `strip`: the text without white space at both ends
abbrev pub StripsText : Datum → List Datum → Answer → Type 0
StripsText d args = Texts (StripsEnds (text_of d))

abbrev pub StripIsOne : Type 0
StripIsOne = (input : Value) (args : List Datum) →
    IsTheOne (StripsText (view input) args) (strip_answer (view input) args)

-- `lstrip`: the text without white space at its start
abbrev pub StripsTextAtStart : Datum → List Datum → Answer → Type 0
StripsTextAtStart d args = Texts (StripsStart (text_of d))

abbrev pub LstripIsOne : Type 0
LstripIsOne = (input : Value) (args : List Datum) → IsTheOne (StripsTextAtStart (view input) args)
    (lstrip_answer (view input) args)

-- `rstrip`: the text without white space at its end
abbrev pub StripsTextAtEnd : Datum → List Datum → Answer → Type 0
StripsTextAtEnd d args = Texts (StripsEnd (text_of d))

abbrev pub RstripIsOne : Type 0
RstripIsOne = (input : Value) (args : List Datum) → IsTheOne (StripsTextAtEnd (view input) args)
    (rstrip_answer (view input) args)

-- `strip_newlines`: the text without newlines
abbrev pub StripsLines : Datum → List Datum → Answer → Type 0
StripsLines d args = Texts (StripsNewlines (text_of d))

abbrev pub StripNewlinesIsOne : Type 0
StripNewlinesIsOne = (input : Value) (args : List Datum) →
    IsTheOne (StripsLines (view input) args) (strip_newlines_answer (view input) args)

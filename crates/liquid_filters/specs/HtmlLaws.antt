-- What the filters over HTML answer, said without them: relations that hold of the answer and of
-- nothing else, and laws.
use Rattle.std.specs.Prelude.{◌≡◌, ℕ, ◌+◌, ◌<◌, ◌≤◌, Bool, true, false, ◌&&◌, ◌||◌, ◌==◌, List, []}
use Rattle.std.specs.Prelude.{◌∷◌, ◌++◌, length, take, drop, codes, Ok}
use Rattle.std.specs.Str.{chars, encode_utf8_all, IsUtf8}
use Rattle.liquid_model.specs.Answer.{IsTheOne}
use Rattle.liquid_model.specs.Data.{Datum, nil, text_of}
use Rattle.liquid_model.specs.Fallible.{◌>>=◌}
use Rattle.liquid_model.specs.Texts.{Text}
use Rattle.liquid_model.specs.View.{view}
use Rattle.liquid_model.specs.declared.value.Value.{Value}
use Rattle.liquid_model.specs.Arguments.{Answer}
use Rattle.liquid_model.specs.Text.{Texts}
use Rattle.liquid_filters.specs.Escapes.{escape_answer, escape_once_answer, escaped_letter}
use Rattle.liquid_filters.specs.Escapes.{once_letter}
use Rattle.liquid_filters.specs.LineBreaks.{broken_letter, newline_to_br_answer}
use Rattle.liquid_filters.specs.Tags.{begins_mark, strip_html, strip_html_answer}

-- t is what f makes of each of these in turn, seen with those after it
abbrev pub Concatenates : (ℕ → List ℕ → Text) → List ℕ → Text → Type 0
Concatenates f [] t = t ≡ []
Concatenates f (c ∷ cs) t = (rest : Text) × (t ≡ f c cs ++ rest) × Concatenates f cs rest

-- nil stays; of anything else the answer is a text of which R holds beside the text of the value
abbrev pub NilOrTexts : (Text → Text → Type 0) → Datum → Answer → Type 0
NilOrTexts R nil a = a ≡ Ok nil
NilOrTexts R d a = Texts (R (text_of d)) a

-- `escape`: each character in turn, or its escape
abbrev pub EscapesText : Datum → Answer → Type 0
EscapesText d = NilOrTexts (λ s. Concatenates (λ c cs. escaped_letter c) (chars s)) d

abbrev pub EscapeIsOne : Type 0
EscapeIsOne = (input : Value) (args : List Datum) →
    IsTheOne (EscapesText (view input)) (escape_answer (view input) args)

-- `escape_once`: each character in turn, or its escape, seen with the text after it
abbrev pub EscapesOnce : Datum → Answer → Type 0
EscapesOnce d =
    NilOrTexts (λ s. Concatenates (λ c cs. once_letter c (encode_utf8_all cs)) (chars s)) d

abbrev pub EscapeOnceIsOne : Type 0
EscapeOnceIsOne = (input : Value) (args : List Datum) →
    IsTheOne (EscapesOnce (view input)) (escape_once_answer (view input) args)

-- `newline_to_br`: each character in turn, and a break before each LF
abbrev pub BreaksLines : Datum → Answer → Type 0
BreaksLines d = Texts (Concatenates (λ c cs. broken_letter c) (chars (text_of d)))

abbrev pub NewlineToBrIsOne : Type 0
NewlineToBrIsOne = (input : Value) (args : List Datum) →
    IsTheOne (BreaksLines (view input)) (newline_to_br_answer (view input) args)

abbrev pub EscapeOnceTwiceIsOnce : Type 0
EscapeOnceTwiceIsOnce = (d : Datum) → escape_once_answer d [] >>= (λ e. escape_once_answer e []) ≡
    escape_once_answer d []

-- what is escaped already stays
abbrev pub EscapeOnceKeepsEscapes : Type 0
EscapeOnceKeepsEscapes = (d : Datum) → escape_answer d [] >>= (λ e. escape_once_answer e []) ≡
    escape_answer d []

-- ---- tags
abbrev pub StandsAt : List ℕ → List ℕ → ℕ → Type 0
StandsAt mark s i = begins_mark mark (drop i s) ≡ true

-- an opener stands there, and a closer at its end or after it
abbrev pub OpensPair : List ℕ → List ℕ → List ℕ → ℕ → Type 0
OpensPair o e s i = StandsAt o s i × ((j : ℕ) × (i + length o ≤ j) × StandsAt e s j)

-- the leftmost opener that has a closer at its end or after it, and the first such closer
pub record IsFirstPair (o e s : List ℕ) (i j : ℕ) : Type 0 where
  pub opens : StandsAt o s i
  pub after : i + length o ≤ j
  pub closes : StandsAt e s j
  pub leftmost : (k : ℕ) → k < i → OpensPair o e s k → ⊥
  pub first : (k : ℕ) → i + length o ≤ k → k < j → StandsAt e s k → ⊥

-- t is s without what stands from the opener to the end of the closer of its first pair, and then
-- of the first pair of what follows, until none is left; xs are the parts that are kept before the
-- pairs
abbrev pub CutsPairs : List ℕ → List ℕ → List (List ℕ) → List ℕ → List ℕ → Type 0
CutsPairs o e [] s t = ((i : ℕ) → OpensPair o e s i → ⊥) × (t ≡ s)
CutsPairs o e (x ∷ xs) s t = (i : ℕ) × (j : ℕ) × (rest : List ℕ) × IsFirstPair o e s i j ×
    (x ≡ take i s) × (t ≡ x ++ rest) × CutsPairs o e xs (drop (j + length e) s) rest

abbrev pub Passes : List ℕ → List ℕ → List ℕ → List ℕ → Type 0
Passes o e s t = (xs : List (List ℕ)) × CutsPairs o e xs s t

-- four passes, one after the other
abbrev pub StripsHtml : Text → Text → Type 0
StripsHtml s t = (scripts : List ℕ) × (styles : List ℕ) × (comments : List ℕ) × (tags : List ℕ)
    × Passes (codes "<script") (codes "</script>") (chars s) scripts
    × Passes (codes "<style") (codes "</style>") scripts styles
    × Passes (codes "<!--") (codes "-->") styles comments
    × Passes (codes "<") (codes ">") comments tags
    × (t ≡ encode_utf8_all tags)

-- `strip_html`: the four passes
abbrev pub StripsTags : Datum → Answer → Type 0
StripsTags d = Texts (StripsHtml (text_of d))

abbrev pub StripHtmlIsOne : Type 0
StripHtmlIsOne = (d : Datum) (args : List Datum) →
    IsTheOne (StripsTags d) (strip_html_answer d args)

-- a `>` stands in the text
abbrev pub has_close : List ℕ → Bool
has_close [] = false
has_close (c ∷ s) = c == 62 || has_close s

-- no `>` stands anywhere after a `<`
abbrev pub HasNoTag : List ℕ → Type 0
HasNoTag [] = Unit {0}
HasNoTag (c ∷ s) = ((c == 60 && has_close s) ≡ false) × HasNoTag s

abbrev pub StripHtmlLeavesNoTag : Type 0
StripHtmlLeavesNoTag = (s : Text) → IsUtf8 s → HasNoTag (strip_html s)

abbrev pub StripHtmlTwiceIsOnce : Type 0
StripHtmlTwiceIsOnce = (s : Text) → IsUtf8 s → strip_html (strip_html s) ≡ strip_html s

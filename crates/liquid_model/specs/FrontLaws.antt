-- What is read at the front of a text stands in the written grammar, and what stands in the grammar
-- is read. So a text begins with one word at most, one quoted text, one number and one blank.
use Rattle.std.specs.Prelude.{◌≡◌, ℕ, ℤ, List, Some}
use Rattle.liquid_model.specs.Front.{past_white, word_at, quoted_at, integer_at}
use Rattle.liquid_model.specs.Words.{Blank, Word, Quoted, Number}

abbrev pub ReadWordStands : Type 0
ReadWordStands = (w bs rest : List ℕ) → word_at bs ≡ Some (w, rest) → Word w bs rest

abbrev pub StandingWordIsRead : Type 0
StandingWordIsRead = (w bs rest : List ℕ) → Word w bs rest → word_at bs ≡ Some (w, rest)

abbrev pub ReadQuotedStands : Type 0
ReadQuotedStands = (s bs rest : List ℕ) → quoted_at bs ≡ Some (s, rest) → Quoted s bs rest

abbrev pub StandingQuotedIsRead : Type 0
StandingQuotedIsRead = (s bs rest : List ℕ) → Quoted s bs rest → quoted_at bs ≡ Some (s, rest)

abbrev pub ReadNumberStands : Type 0
ReadNumberStands = (n : ℤ) (bs rest : List ℕ) → integer_at bs ≡ Some (n, rest) → Number n bs rest

abbrev pub StandingNumberIsRead : Type 0
StandingNumberIsRead = (n : ℤ) (bs rest : List ℕ) → Number n bs rest →
    integer_at bs ≡ Some (n, rest)

-- a blank may be empty, so each text begins with one
abbrev pub PassedBlankStands : Type 0
PassedBlankStands = (bs : List ℕ) → Blank bs (past_white bs)

abbrev pub StandingBlankIsPassed : Type 0
StandingBlankIsPassed = (bs rest : List ℕ) → Blank bs rest → past_white bs ≡ rest

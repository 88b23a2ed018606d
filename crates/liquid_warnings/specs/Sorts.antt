-- The sorts of warnings: what each says.
--     WarnsOf kind message s      a warning of this kind somewhere, that says this
--     InOrder P Q ws      those of the one sort, and after them those of the other
--     OnlyWhere b P ws      those of a sort, of which there are none where `b` is false
--     IsDoubt s      a warning about what the data has other than a template asks for it
use Rattle.std.specs.Prelude.{◌≡◌, ◌⊎◌, ℕ, Bool, true, false, List, [], ◌++◌, Option, codes}
use Rattle.liquid_model.specs.Data.{Datum}
use Rattle.liquid_model.specs.Texts.{Text}
use Rattle.liquid_warnings.specs.Messages.{always_true, else_if_message, escaped_twice_message}
use Rattle.liquid_warnings.specs.Messages.{false_words, in_data, kind_word, lack_message, no_text}
use Rattle.liquid_warnings.specs.Messages.{truth_text}
use Rattle.liquid_warnings.specs.Messages.{IsForeignMessage, front_matter_message, not_given}
use Rattle.liquid_warnings.specs.Messages.{false_message, no_key_message, no_other}
use Rattle.liquid_warnings.specs.Messages.{number_date, size_message}
use Rattle.liquid_warnings.specs.Messages.{captured_true, quoted_message, stray_message}
use Rattle.liquid_warnings.specs.Messages.{text_as, whole_map_message}
use Rattle.liquid_warnings.specs.Messages.{no_date, number_text, past_end, recursive_message}
use Rattle.liquid_warnings.specs.Messages.{unescaped_message, unused_message}
use Rattle.liquid_warnings.specs.Messages.{unused_partial_message, value_message}
use Rattle.liquid_warnings.specs.Remarks.{Said, warning_at}

abbrev pub WarnsOf : Text → Text → Said → Type 0
WarnsOf kind message s = (line : ℕ) × (column : ℕ) × (s ≡ warning_at line column kind message)

-- ---- of a source

-- an `else` with something after it
abbrev pub IsElseIf : Said → Type 0
IsElseIf s = WarnsOf (codes "ElseIf") else_if_message s

-- an output in an attribute that nothing escapes
abbrev pub IsUnescaped : Said → Type 0
IsUnescaped s = WarnsOf (codes "UnescapedAttribute") unescaped_message s

-- ---- of names

-- a name that neither the data nor a tag has, and a similar one if there is one
abbrev pub IsUnknownName : Said → Type 0
IsUnknownName s = (name : Text) × (similar : Option Text)
    × WarnsOf (codes "UnknownName") (lack_message (codes "the data has no") name similar) s

-- a name that is set and that nothing reads
abbrev pub IsUnusedName : Said → Type 0
IsUnusedName s = (name : Text) × WarnsOf (codes "UnusedVariable") (unused_message name) s

-- an output that escapes a captured text
abbrev pub IsEscapedTwice : Said → Type 0
IsEscapedTwice s = (name : Text) × WarnsOf (codes "EscapedTwice") (escaped_twice_message name) s

-- ---- of the data

-- a map on the way hasn't the key
abbrev pub IsUnknownPath : Said → Type 0
IsUnknownPath s = (message : Text) × WarnsOf (codes "UnknownPath") message s

-- a loop over a value that is no list and no map
abbrev pub IsUnlisted : Said → Type 0
IsUnlisted s = (path : Text) × (d : Datum)
    × WarnsOf (codes "NoList") (value_message (in_data path) (kind_word d)) s

-- a `limit` that goes past the items of a list
abbrev pub IsPastEnd : Said → Type 0
IsPastEnd s = (path : Text) × (count : ℕ) × WarnsOf (codes "PastEnd") (past_end path count) s

-- a text that isn't read as a date
abbrev pub IsUndated : Said → Type 0
IsUndated s = (path : Text) × (found : Text) × WarnsOf (codes "NoDate") (no_date path found) s

-- a text that is compared with a number
abbrev pub IsNumberText : Said → Type 0
IsNumberText s = (path : Text) × (found : Text)
    × WarnsOf (codes "TextNumber") (number_text path found) s

-- a text that is compared with a truth value
abbrev pub IsTruthText : Said → Type 0
IsTruthText s = (path : Text) × (found : Text)
    × WarnsOf (codes "TextTruth") (truth_text path found) s

-- a number or a truth value that is compared with a text
abbrev pub IsNoText : Said → Type 0
IsNoText s = (path : Text) × (d : Datum)
    × WarnsOf (codes "NoText") (no_text path (kind_word d)) s

-- a value that looks false, in a condition
abbrev pub IsAlwaysTrue : Said → Type 0
IsAlwaysTrue s = (path : Text) × (d : Datum)
    × WarnsOf (codes "AlwaysTrue") (always_true path (false_words d)) s

-- what is compared with a number is something else, but no text
abbrev pub IsNoNumber : Said → Type 0
IsNoNumber s = (path : Text) × (d : Datum)
    × WarnsOf (codes "NoNumber") (no_other path (kind_word d) (codes "number")) s

-- what is compared with a truth value is a number
abbrev pub IsNoTruth : Said → Type 0
IsNoTruth s = (path : Text) × (d : Datum)
    × WarnsOf (codes "NoTruth") (no_other path (kind_word d) (codes "truth value")) s

-- a map that an output shows
abbrev pub IsWholeMap : Said → Type 0
IsWholeMap s = (path : Text) × WarnsOf (codes "WholeMap") (whole_map_message path) s

-- a list that is asked for a key
abbrev pub IsNoKey : Said → Type 0
IsNoKey s = (path : Text) × WarnsOf (codes "NoKey") (no_key_message path) s

-- the number of items or characters, in a condition
abbrev pub IsTestedSize : Said → Type 0
IsTestedSize s = (path : Text) × WarnsOf (codes "AlwaysTrue") (size_message path) s

-- `false`, which `default` replaces
abbrev pub IsFalseDefault : Said → Type 0
IsFalseDefault s = (path : Text) × WarnsOf (codes "FalseDefault") (false_message path) s

-- a number that is printed as a date
abbrev pub IsNumberDate : Said → Type 0
IsNumberDate s = (path : Text) × WarnsOf (codes "NumberDate") (number_date path) s

abbrev pub IsDoubt : Said → Type 0
IsDoubt s = IsUnknownPath s ⊎ (IsUnlisted s ⊎ (IsPastEnd s ⊎ (IsUndated s
    ⊎ (IsNumberText s ⊎ (IsTruthText s ⊎ (IsNoText s ⊎ (IsAlwaysTrue s ⊎ (IsNoNumber s
    ⊎ (IsNoTruth s ⊎ (IsWholeMap s ⊎ (IsNoKey s ⊎ (IsTestedSize s ⊎ (IsFalseDefault s
    ⊎ IsNumberDate s)))))))))))))

-- ---- of partials

-- a tag runs one that isn't there
abbrev pub IsMissingPartial : Said → Type 0
IsMissingPartial s = (name : Text) × (similar : Option Text)
    × WarnsOf (codes "MissingPartial") (lack_message (codes "no partial is named") name similar) s

-- none of the templates runs it
abbrev pub IsUnusedPartial : Said → Type 0
IsUnusedPartial s = s ≡ warning_at 1 1 (codes "UnusedPartial") unused_partial_message

-- a tag runs one in which it stands
abbrev pub IsRecursive : Said → Type 0
IsRecursive s = (name : Text) × WarnsOf (codes "RecursivePartial") (recursive_message name) s

-- a tag gives one a pair that it doesn't read
abbrev pub IsUnusedPair : Said → Type 0
IsUnusedPair s = (name : Text) × (similar : Option Text)
    × WarnsOf (codes "UnusedPair") (lack_message (codes "the partial reads no") name similar) s

-- one that `render` alone runs reads a name that no tag gives it
abbrev pub IsNotGiven : Said → Type 0
IsNotGiven s = (name : Text) × WarnsOf (codes "NotGiven") (not_given name) s

-- ---- of texts, and of tags that do nothing where they stand

-- a `break` or a `continue` in no loop
abbrev pub IsStray : Said → Type 0
IsStray s = (name : Text) × WarnsOf (codes "StrayBreak") (stray_message name) s

-- a text that a tag sets, and a condition takes for something else
abbrev pub IsTextTest : Said → Type 0
IsTextTest s = (name : Text) × (WarnsOf (codes "TextNumber") (text_as name (codes "number")) s
    ⊎ (WarnsOf (codes "TextTruth") (text_as name (codes "truth value")) s
    ⊎ WarnsOf (codes "AlwaysTrue") (captured_true name) s))

-- a name of the data that an output shows in place of its value
abbrev pub IsQuotedName : Said → Type 0
IsQuotedName s = (name : Text) × WarnsOf (codes "QuotedName") (quoted_message name) s

-- front matter, which is printed
abbrev pub IsPrintedFront : Said → Type 0
IsPrintedFront s = s ≡ warning_at 1 1 (codes "FrontMatter") front_matter_message

-- a value, a tag or a comment as other languages write them
abbrev pub IsForeign : Said → Type 0
IsForeign s = (message : Text)
    × (IsForeignMessage message × WarnsOf (codes "ForeignOutput") message s)

-- ---- one sort after another

pub record InOrder (P Q : List Said → Type 0) (ws : List Said) : Type 0 where
  pub first : List Said
  pub more : List Said
  pub whole : ws ≡ first ++ more
  pub first_are : P first
  pub more_are : Q more

abbrev pub OnlyWhere : Bool → (List Said → Type 0) → List Said → Type 0
OnlyWhere true P ws = P ws
OnlyWhere false P ws = ws ≡ []

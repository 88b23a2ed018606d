-- Texts that are made of the words of others: `handle`, `camelize` and `squish`.
use Rattle.std.specs.Prelude.{ℕ, Bool, ◌==◌, ◌||◌, List, [], ◌∷◌, ◌++◌, codes, if◌then◌else◌}
use Rattle.std.specs.Char.{is_ascii_alphanumeric, to_ascii_lowercase, to_ascii_uppercase}
use Rattle.std.specs.Str.{chars, encode_utf8_all}
use Rattle.liquid_model.specs.Texts.{Text}
use Rattle.liquid_shopify_host_filters.specs.declared.words.Place.{Place}
use Rattle.liquid_shopify_host_filters.specs.declared.words.Place.TheVariants.{Word, Between}
use Rattle.liquid_shopify_host_filters.specs.declared.words.Place.TheVariants.{Nowhere}
use Rattle.liquid_shopify_host_filters.specs.declared.words.State.{State}
use Rattle.liquid_shopify_host_filters.specs.declared.words.State.TheVariants.{Before, Inside, Past}
use Rattle.liquid_shopify_host_filters.specs.declared.words.Wording.{Wording}
use Rattle.liquid_shopify_host_filters.specs.declared.words.Wording.TheVariants.{Handle, Camel}
use Rattle.liquid_shopify_host_filters.specs.declared.words.Wording.TheVariants.{Squish}

-- an ASCII letter or digit, or _
abbrev pub is_word_character : ℕ → Bool
is_word_character c = is_ascii_alphanumeric c || c == 95

-- ' " ( ) [ ]
abbrev pub is_left_out : ℕ → Bool
is_left_out c = c == 39 || c == 34 || c == 40 || c == 41 || c == 91 || c == 93

-- - _ and the space
abbrev pub is_joint : ℕ → Bool
is_joint c = c == 45 || c == 95 || c == 32

-- the space, tab, LF, VT, FF and CR
abbrev pub is_space : ℕ → Bool
is_space c = c == 32 || c == 9 || c == 10 || c == 11 || c == 12 || c == 13

-- what a character is to a wording
abbrev pub character_role : Wording → ℕ → Place
character_role Handle c = if is_word_character c then Word else
    (if is_left_out c then Nowhere else Between)
character_role Camel c = if is_joint c then Between else Word
character_role Squish c = if is_space c then Between else Word

-- what is written between two words
abbrev pub separator : Wording → Text
separator Handle = codes "-"
separator Camel = []
separator Squish = codes " "

-- what is written between the word before and the next one
abbrev pub lead : Wording → State → Text
lead w Before = []
lead w Inside = []
lead w Past = separator w

-- a word's character, as it is written: the first one in upper case, or all in lower case
abbrev pub shaped : Wording → State → ℕ → ℕ
shaped Handle state c = to_ascii_lowercase c
shaped Camel Inside c = c
shaped Camel state c = to_ascii_uppercase c
shaped Squish state c = c

-- what is written of a character
abbrev pub shown_at : Place → Wording → State → ℕ → List ℕ
shown_at Word w state c = lead w state ++ (shaped w state c ∷ [])
shown_at Between w state c = []
shown_at Nowhere w state c = []

abbrev pub worded_character : Wording → State → ℕ → List ℕ
worded_character w state c = shown_at (character_role w c) w state c

-- where a wording is after a character: one between words ends a word
abbrev pub after_at : Place → State → State
after_at Word state = Inside
after_at Between Before = Before
after_at Between Inside = Past
after_at Between Past = Past
after_at Nowhere state = state

abbrev pub after : Wording → State → ℕ → State
after w state c = after_at (character_role w c) state

-- the characters of the words, each word after what is written between two
abbrev pub worded : Wording → State → List ℕ → List ℕ
worded w state [] = []
worded w state (c ∷ cs) = worded_character w state c ++ worded w (after w state c) cs

-- the text of the words of s
abbrev pub worded_text : Wording → Text → Text
worded_text w s = encode_utf8_all (worded w Before (chars s))

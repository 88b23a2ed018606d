-- What a line of YAML says.
--     said s      what a line says that is trimmed at its end, where it says something
use Rattle.std.specs.Prelude.{ℕ, ◌+◌, ◌==◌, ◌||◌, ◌&&◌, not, nat_le, Bool, [], ◌∷◌, take, drop}
use Rattle.std.specs.Prelude.{cond, bytes_eq, codes, false, Option, Some, None, option_map}
use Rattle.std.specs.List.{prefix_len}
use Rattle.liquid_model.specs.Texts.{Text}
use Rattle.liquid_model.specs.Bytes.{colon, dash, double_quote, is_letter, number_sign}
use Rattle.liquid_model.specs.Bytes.{single_quote}
use Rattle.liquid_yaml.specs.Bytes.{backslash, begins_with_byte, end_trimmed, is_ended}
use Rattle.liquid_yaml.specs.Bytes.{is_key_byte, spaces_in, without_spaces}
use Rattle.liquid_yaml.specs.Values.{is_yaml_word}
use Rattle.liquid_yaml.specs.declared.line.Line.{Line}
use Rattle.liquid_yaml.specs.declared.line.Member.{Member}
use Rattle.liquid_yaml.specs.declared.line.Line.TheVariants as line

-- a key and what follows it, after so many bytes
pub record SaidMember : Type 0 where
  pub column : ℕ
  pub key : Text
  pub value : Text

-- nothing; a comment; a member of a map; an item of a list, after so many spaces; an item that is a
-- map and stands before its first member; or a value or a part of a text, after so many spaces
pub data LineMeaning : Type 0 where
  blank : LineMeaning
  note : LineMeaning
  sets : SaidMember → LineMeaning
  adds : ℕ → Text → LineMeaning
  adds_map : ℕ → SaidMember → LineMeaning
  spells : ℕ → Text → LineMeaning

-- the line that opens front matter, and one that ends it
abbrev pub opens_front : Text → Bool
opens_front s = bytes_eq (end_trimmed s) (codes "---")

abbrev pub ends_front : Text → Bool
ends_front s = bytes_eq (end_trimmed s) (codes "---") || bytes_eq (end_trimmed s) (codes "...")

-- what follows a key: spaces, a colon, and a value after a space, or nothing; where no space is
-- needed, a value
abbrev pub member_said : Bool → ℕ → Text → Text → Option SaidMember
member_said is_tight n key [] = None
member_said is_tight n key (b ∷ bs) = cond (b == colon && (is_tight || is_ended bs))
    (Some (record { column = n; key = key; value = without_spaces bs })) None

-- how many bytes of a key stand at the front
abbrev pub key_len : Text → ℕ
key_len s = prefix_len is_key_byte s

abbrev pub begins_with_letter : Text → Bool
begins_with_letter [] = false
begins_with_letter (b ∷ bs) = is_letter b

-- a letter or `_` begins a key, and a key is none of the words that are no texts
abbrev pub is_key : Text → Bool
is_key s = begins_with_letter s && not (is_yaml_word s)

abbrev pub plain_member : ℕ → Text → Option SaidMember
plain_member n s = cond (is_key (take (key_len s) s))
    (member_said false n (take (key_len s) s) (without_spaces (drop (key_len s) s))) None

-- a byte of a key in the quotes q, which has no escape
abbrev pub in_quoted_key : ℕ → ℕ → Bool
in_quoted_key q b = not (b == q) && not (q == double_quote && b == backslash)

-- the other quote follows; and the key isn't the one that merges maps
abbrev pub is_quoted_key : ℕ → Text → Text → Bool
is_quoted_key q key rest = begins_with_byte q rest && not (bytes_eq key (codes "<<"))

abbrev pub quoted_member_by : Bool → ℕ → ℕ → Text → Text → Option SaidMember
quoted_member_by is_tight n q key rest = cond (is_quoted_key q key rest)
    (member_said is_tight n key (without_spaces (drop 1 rest))) None

-- a key after the quote q, the quote, and a value, before which a list or map needs no space
abbrev pub quoted_member : Bool → ℕ → ℕ → Text → Option SaidMember
quoted_member in_flow n q bs = quoted_member_by in_flow n q
    (take (prefix_len (in_quoted_key q) bs) bs) (drop (prefix_len (in_quoted_key q) bs) bs)

abbrev pub member_of : Bool → ℕ → Text → Option SaidMember
member_of in_flow n [] = None
member_of in_flow n (b ∷ bs) = cond (b == double_quote || b == single_quote)
    (quoted_member in_flow n b bs) (plain_member n (b ∷ bs))

-- how far to the right a member or an item may begin
abbrev pub widest : ℕ
widest = 200

-- an item's text is the first member of a map, or a value
abbrev pub item_meaning : ℕ → Text → Option SaidMember → LineMeaning
item_meaning n s None = adds n s
item_meaning n s (Some m) = adds_map n m

abbrev pub first_member : ℕ → ℕ → Text → Option SaidMember
first_member n gap s = cond (nat_le gap widest) (member_of false (n + 1 + gap) s) None

-- what follows a `-`
abbrev pub item_said : ℕ → Text → LineMeaning
item_said n bs = item_meaning n (without_spaces bs)
    (first_member n (spaces_in bs) (without_spaces bs))

abbrev pub member_or_part : ℕ → Text → Option SaidMember → LineMeaning
member_or_part n s None = spells n s
member_or_part n s (Some m) = sets m

abbrev pub said_after : ℕ → Text → LineMeaning
said_after n [] = blank
said_after n (b ∷ bs) = cond (b == number_sign) note (cond (b == dash && is_ended bs)
    (item_said n bs) (member_or_part n (b ∷ bs) (member_of false n (b ∷ bs))))

abbrev pub said : Text → Option LineMeaning
said s = cond (nat_le (spaces_in s) widest) (Some (said_after (spaces_in s) (without_spaces s)))
    None

-- ---- as contracts see it

abbrev pub setting_view : Member → SaidMember
setting_view m = record { column = m.column; key = m.key.now; value = m.value.now }

abbrev pub line_view : Line → LineMeaning
line_view line.Blank = blank
line_view line.Note = note
line_view (line.Sets m) = sets (setting_view m)
line_view (line.Adds i) = adds i.column i.value.now
line_view (line.AddsMap i) = adds_map i.column (setting_view i.first)
line_view (line.Spells i) = spells i.column i.value.now

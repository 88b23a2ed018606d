-- What a message shows of a text that a stranger wrote, and what a message is: a short line.
--     quotation text      at most 60 characters of the text, with `...` where more follow, and none
--                         that a terminal would obey
--     is_line most text      the text has at most `most` bytes, and none of them is a control
--                            character
use Rattle.std.specs.Prelude.{◌≡◌, ◌≤◌, ℕ, ◌-◌, Bool, true, false, IsTrue, cond, not, ◌&&◌, ◌||◌}
use Rattle.std.specs.Prelude.{◌==◌, nat_lt, nat_le, List, [], ◌∷◌, ◌++◌, codes, length}
use Rattle.std.specs.Char.{encode_utf8, is_control}
use Rattle.std.specs.Fmt.{digits}
use Rattle.std.specs.Int.{is_in_range}
use Rattle.std.specs.List.{list_all}
use Rattle.std.specs.Str.{chars, IsUtf8}
use Rattle.liquid_model.specs.Texts.{Text}
use Rattle.liquid_model.specs.declared.error.ErrorKind.{ErrorKind}
use Rattle.liquid_model.specs.ErrorKinds.{is_write}

-- ---- quotations

-- the most characters of a text that are shown; one that is escaped counts as 8
abbrev pub most_quoted : ℕ
most_quoted = 60

-- a character that prints nothing or turns the direction of what follows, or white space other than
-- a plain space
abbrev pub is_unseen : ℕ → Bool
is_unseen c =
    c == 0xA0 || c == 0xAD || c == 0x61C || is_in_range 0x2000 0x200F c ||
    is_in_range 0x2028 0x202F c || is_in_range 0x205F 0x206F c
    || c == 0x3000 || c == 0xFEFF

-- a character that would not stand for itself on a line
abbrev pub is_hidden : ℕ → Bool
is_hidden c = is_control c || is_unseen c

-- `\n`, `\r`, `\t`, and of any other the number, as `\u{1b}`
abbrev pub hidden_escape : ℕ → Text
hidden_escape c = cond (c == 10) (codes "\\n")
    (cond (c == 13) (codes "\\r")
    (cond (c == 9) (codes "\\t") (codes "\\u{" ++ (digits 16 false c ++ codes "}"))))

-- a character as it is shown
abbrev pub character_shown : ℕ → Text
character_shown c = cond (is_hidden c) (hidden_escape c) (encode_utf8 c)

-- as how many characters it counts
abbrev pub cost : ℕ → ℕ
cost c = cond (is_hidden c) 8 1

-- the beginning of the characters that counts as n at most, with `...` where more follow
abbrev pub quoted : ℕ → List ℕ → Text
quoted n [] = []
quoted n (c ∷ cs) = cond (nat_lt n (cost c)) (codes "...")
    (character_shown c ++ quoted (n - cost c) cs)

-- what a message shows of a text
abbrev pub quotation : Text → Text
quotation text = quoted most_quoted (chars text)

-- ---- lines

-- a byte that is no control character
abbrev pub is_line_byte : ℕ → Bool
is_line_byte b = not (nat_lt b 32) && not (b == 127)

-- at most `most` bytes, and no control character
abbrev pub is_line : ℕ → Text → Bool
is_line most text = nat_le (length text) most && list_all is_line_byte text

-- the most bytes that a message has
abbrev pub most_bytes : ℕ
most_bytes = 1000

-- what the message of a fault of this kind is: a short line. Of a failed write it is the host's,
-- and may be any text
abbrev pub is_message : ErrorKind → Text → Bool
is_message kind text = is_write kind || is_line most_bytes text

-- ---- laws

-- a quotation is a line of 243 bytes at most, whatever the text is
abbrev pub QuotationsAreLines : Type 0
QuotationsAreLines = (t : Text) → IsTrue (is_line 243 (quotation t))

-- a text of 60 characters at most that each stand for themselves is shown as it is
abbrev pub PlainTextsAreShownWhole : Type 0
PlainTextsAreShownWhole = (t : Text) → IsUtf8 t → length (chars t) ≤ most_quoted →
    list_all (λ c. not (is_hidden c)) (chars t) ≡ true → quotation t ≡ t

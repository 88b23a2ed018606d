-- Texts in quotes: where they end, and what their escapes mean.
--     quoting_len q s      how many bytes stand before the quote that ends the text
--     quoted_text q s      the text of what stands between two quotes, where that is one
use Rattle.std.specs.Prelude.{ℕ, ◌+◌, ◌*◌, ◌-◌, ◌==◌, ◌||◌, ◌&&◌, not, min, Bool, true}
use Rattle.std.specs.Prelude.{false, List, [], ◌∷◌, ◌++◌, cond, nat_le, nat_lt}
use Rattle.std.specs.Prelude.{Option, Some, None, option_map, option_and_then}
use Rattle.std.specs.Option.{option_to_list}
use Rattle.std.specs.Str.{chars, encode_utf8_all}
use Rattle.liquid_model.specs.Texts.{Text}
use Rattle.liquid_model.specs.Bytes.{double_quote, single_quote, slash}
use Rattle.liquid_yaml.specs.Bytes.{backslash, begins_with_byte, state_len}
use Rattle.liquid_yaml.specs.declared.quoting.Escape.{Escape}
use Rattle.liquid_yaml.specs.declared.quoting.Escape.TheVariants.{Outside, Sign, Digits}
use Rattle.liquid_yaml.specs.declared.quoting.Digits.{Digits as HexDigits}
use Rattle.liquid_yaml.specs.declared.quoting.Shown.{Shown}

-- the byte b, before bs, begins an escape: in double quotes a `\`, in single ones a `'` before one
abbrev pub begins_escape : ℕ → ℕ → Text → Bool
begins_escape q b bs = cond (q == double_quote) (b == backslash) (b == q && begins_with_byte q bs)

-- after it the next byte is one of an escape
abbrev pub escape_after : ℕ → Bool → ℕ → Text → Bool
escape_after q is_escaped b bs = not is_escaped && begins_escape q b bs

-- the quote ends the text, unless it is one of an escape
abbrev pub ends_quoting : ℕ → Bool → ℕ → Text → Bool
ends_quoting q is_escaped b bs = not is_escaped && (not (begins_escape q b bs) && b == q)

abbrev pub quoting_len : ℕ → Text → ℕ
quoting_len q s = state_len (ends_quoting q) (escape_after q) false s

-- ---- escapes

-- the character with which an escape begins
abbrev pub escape_sign : ℕ → ℕ
escape_sign q = cond (q == double_quote) backslash q

abbrev pub shown_as : ℕ → Option Shown
shown_as c = Some (record { after = Outside; letter = Some c })

abbrev pub shown_later : Escape → Option Shown
shown_later e = Some (record { after = e; letter = None })

-- after a `\`: `"`, `\` and `/` are themselves, `n`, `t` and `r` a line feed, a tab and a carriage
-- return, and `u` stands before four digits to the base of 16
abbrev pub named_escape : ℕ → Option Shown
named_escape c = cond (c == double_quote || (c == backslash || c == slash)) (shown_as c)
    (cond (c == 110) (shown_as 10) (cond (c == 116) (shown_as 9) (cond (c == 114) (shown_as 13)
    (cond (c == 117) (shown_later (Digits (record { left = 4; code = 0 }))) None))))

abbrev pub escaped_as : ℕ → ℕ → Option Shown
escaped_as q c = cond (q == double_quote) (named_escape c) (cond (c == q) (shown_as c) None)

abbrev pub escape_digit : ℕ → Option ℕ
escape_digit c = cond (nat_le 48 c && nat_le c 57) (Some (c - 48))
    (cond (nat_le 97 c && nat_le c 102) (Some (c - 87))
    (cond (nat_le 65 c && nat_le c 70) (Some (c - 55)) None))

-- a code is that of a character, unless it is half of one in UTF-16, or past the last one
abbrev pub character_of : ℕ → Option Shown
character_of n = cond (nat_lt n 55296 || (nat_lt 57343 n && nat_lt n 1114112)) (shown_as n) None

-- four digits are below the bound
abbrev pub with_digit : ℕ → ℕ → ℕ
with_digit code d = min (min (code * 16) 4294967295 + d) 4294967295

abbrev pub more_digits : HexDigits → ℕ → Option Shown
more_digits h code = cond (nat_lt 1 h.left)
    (shown_later (Digits (record { left = h.left - 1; code = code }))) (character_of code)

abbrev pub after_digit : HexDigits → Option ℕ → Option Shown
after_digit h None = None
after_digit h (Some d) = more_digits h (with_digit h.code d)

abbrev pub after_character : ℕ → Escape → ℕ → Option Shown
after_character q Outside c =
    cond (c == escape_sign q) (shown_later Sign) (shown_as c)
after_character q Sign c = escaped_as q c
after_character q (Digits h) c = after_digit h (escape_digit c)

abbrev pub is_outside_escapes : Escape → Bool
is_outside_escapes Outside = true
is_outside_escapes _ = false

-- what characters show, one after another
abbrev pub escapes_read : ℕ → Escape → List ℕ → Option (List ℕ)
escapes_read q e [] = cond (is_outside_escapes e) (Some []) None
escapes_read q e (c ∷ cs) = option_and_then
    (λ s. option_map (λ more. option_to_list s.letter ++ more) (escapes_read q s.after cs))
    (after_character q e c)

abbrev pub quoted_text : ℕ → Text → Option Text
quoted_text q s = option_map encode_utf8_all (escapes_read q Outside (chars s))

-- What a scalar on one line says.
--     scalar_at may_note s      a text in quotes, a word, a whole number or a plain text
use Rattle.std.specs.Prelude.{ℕ, ◌-◌, ◌==◌, ◌||◌, ◌&&◌, not, nat_le, nat_lt, Bool, true, false}
use Rattle.std.specs.Prelude.{List, [], ◌∷◌, length, take, drop, slice_index, cond, bytes_eq, codes}
use Rattle.std.specs.Prelude.{Option, Some, None, option_map, is_some}
use Rattle.std.specs.List.{list_all}
use Rattle.liquid_model.specs.Data.{Datum, nil, truth, number, text}
use Rattle.liquid_model.specs.Texts.{Text}
use Rattle.liquid_model.specs.Whole.{whole_text}
use Rattle.liquid_model.specs.Bytes.{dash, dot, double_quote, is_digit, plus_sign, single_quote}
use Rattle.liquid_model.specs.Bytes.{space}
use Rattle.liquid_model.specs.Front.{run_len}
use Rattle.liquid_yaml.specs.Bytes.{end_trimmed, first_part, in_plain, is_ended, is_rest}
use Rattle.liquid_yaml.specs.Quotings.{quoting_len, quoted_text}

-- ---- texts in quotes

-- the quote q, and nothing after it but perhaps a comment
abbrev pub closes_quote : Bool → ℕ → Text → Bool
closes_quote may_note q [] = false
closes_quote may_note q (b ∷ bs) = b == q && is_rest may_note bs

-- what stands after the quote q, where that is a text and the quote
abbrev pub quoted_scalar : Bool → ℕ → Text → Option Datum
quoted_scalar may_note q bs = cond (closes_quote may_note q (drop (quoting_len q bs) bs))
    (option_map text (quoted_text q (take (quoting_len q bs) bs))) None

-- ---- plain texts

-- one of the signs with which YAML begins something else: ! " # % & ' * , : > ? @ [ ] ` { | }
abbrev pub is_indicator : ℕ → Bool
is_indicator b = (nat_le 33 b && nat_le b 44 && not (b == 36 || (b == 40 || (b == 41 || b == 43))))
    || ((b == 58) || ((nat_le 62 b && nat_le b 64) || ((b == 91) || ((b == 93) || ((b == 96)
    || (nat_le 123 b && nat_le b 125))))))

-- a text begins: a `-` begins one where no space follows it
abbrev pub opens_plain : ℕ → List ℕ → Bool
opens_plain b bs = not (b == space) && (not (is_indicator b) && not (b == dash && is_ended bs))

abbrev pub begins_plain : Text → Bool
begins_plain [] = false
begins_plain (b ∷ bs) = opens_plain b bs

-- the text up to a comment, without the spaces before that
abbrev pub plain_text : Text → Text
plain_text s = end_trimmed (take (run_len in_plain s) s)

-- no comment follows
abbrev pub is_all_plain : Text → Bool
is_all_plain s = begins_plain s && run_len in_plain s == length s

abbrev pub is_plain_scalar : Bool → Text → Bool
is_plain_scalar may_note s = begins_plain s && is_rest may_note (drop (run_len in_plain s) s)

-- ---- what a plain text says

abbrev pub is_null_word : Text → Bool
is_null_word s = bytes_eq s (codes "~") || (bytes_eq s (codes "null")
    || (bytes_eq s (codes "Null") || bytes_eq s (codes "NULL")))

abbrev pub is_true_word : Text → Bool
is_true_word s = bytes_eq s (codes "true") || (bytes_eq s (codes "True")
    || (bytes_eq s (codes "TRUE") || (bytes_eq s (codes "yes") || (bytes_eq s (codes "Yes")
    || (bytes_eq s (codes "YES") || (bytes_eq s (codes "on") || (bytes_eq s (codes "On")
    || bytes_eq s (codes "ON"))))))))

abbrev pub is_false_word : Text → Bool
is_false_word s = bytes_eq s (codes "false") || (bytes_eq s (codes "False")
    || (bytes_eq s (codes "FALSE") || (bytes_eq s (codes "no") || (bytes_eq s (codes "No")
    || (bytes_eq s (codes "NO") || (bytes_eq s (codes "off") || (bytes_eq s (codes "Off")
    || bytes_eq s (codes "OFF"))))))))

-- one of the words that YAML reads as no text
abbrev pub is_yaml_word : Text → Bool
is_yaml_word s = is_null_word s || (is_true_word s || is_false_word s)

-- a sign, a digit or a dot, with which a number begins
abbrev pub opens_number : ℕ → Bool
opens_number b = is_digit b [] || ((b == dash) || ((b == plus_sign) || (b == dot)))

-- a byte of numbers, days and clocks: a digit, a sign of one, or a letter of one
abbrev pub in_number : ℕ → Bool
in_number b = (nat_le 43 b && nat_le b 46) || ((nat_le 48 b && nat_le b 58) || ((b == 32)
    || ((b == 84) || ((b == 90) || ((b == 95) || ((b == 120) || ((b == 111)
    || ((nat_le 65 b && nat_le b 70) || (nat_le 97 b && nat_le b 102)))))))))

-- what looks like a number, a day or a clock
abbrev pub looks_numeric : Text → Bool
looks_numeric [] = false
looks_numeric (b ∷ bs) = opens_number b && list_all in_number (b ∷ bs)

-- `.inf` and `.nan`, which are numbers of YAML
abbrev pub is_no_number : Text → Bool
is_no_number s = bytes_eq s (codes ".inf") || (bytes_eq s (codes ".nan")
    || (bytes_eq s (codes "-.inf") || bytes_eq s (codes "+.inf")))

-- a zero before another digit makes a number to the base of 8
abbrev pub is_octal : Text → Bool
is_octal s = nat_lt 1 (length s) && (slice_index s 0 == 48)

-- four digits and a `-`: a year, so that the text is a day or an instant, which stays a text
abbrev pub begins_year : Text → Bool
begins_year s = list_all (λ b. is_digit b []) (take 4 s) && (slice_index s 4 == dash)

-- a dot, and two dots, as a version has, so that the text is no number
abbrev pub has_dot : Text → Bool
has_dot s = is_some (first_part dot s).1

abbrev pub dot_after : Option Text → Bool
dot_after None = false
dot_after (Some s) = has_dot s

abbrev pub has_two_dots : Text → Bool
has_two_dots s = dot_after (first_part dot s).1

-- a text without its sign
abbrev pub unsigned : Text → Text
unsigned [] = []
unsigned (b ∷ bs) = cond (b == dash || b == plus_sign) bs (b ∷ bs)

-- of what looks like a number: a whole one within 64 bits, or the text of a day, an instant or a
-- version
abbrev pub numeric_value : Text → Option Datum
numeric_value s = cond (begins_year s || has_two_dots s) (Some (text s))
    (cond (is_octal (unsigned s)) None (option_map number (whole_text s)))

abbrev pub plain_value : Text → Option Datum
plain_value s = cond (is_null_word s) (Some nil) (cond (is_true_word s) (Some (truth true))
    (cond (is_false_word s) (Some (truth false)) (cond (looks_numeric s) (numeric_value s)
    (cond (is_no_number s) None (Some (text s))))))

abbrev pub plain_at : Bool → Text → Option Datum
plain_at may_note s = cond (is_plain_scalar may_note s) (plain_value (plain_text s)) None

-- ---- values

abbrev pub scalar_by : Bool → ℕ → List ℕ → Option Datum
scalar_by may_note b bs = cond (b == double_quote || b == single_quote)
    (quoted_scalar may_note b bs) (plain_at may_note (b ∷ bs))

abbrev pub scalar_at : Bool → Text → Option Datum
scalar_at may_note [] = None
scalar_at may_note (b ∷ bs) = scalar_by may_note b bs

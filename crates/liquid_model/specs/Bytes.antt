-- Bytes by their names, and the kinds of bytes.
use Rattle.std.specs.Prelude.{ℕ, List, [], ◌∷◌, Bool, false, not, ◌==◌, ◌||◌, ◌&&◌, nat_le}

-- ---- the bytes that the grammar names

abbrev pub tab : ℕ
tab = 9

abbrev pub line_feed : ℕ
line_feed = 10

abbrev pub carriage_return : ℕ
carriage_return = 13

abbrev pub space : ℕ
space = 32

abbrev pub exclamation_mark : ℕ
exclamation_mark = 33

abbrev pub double_quote : ℕ
double_quote = 34

abbrev pub number_sign : ℕ
number_sign = 35

abbrev pub percent : ℕ
percent = 37

abbrev pub single_quote : ℕ
single_quote = 39

abbrev pub open_parenthesis : ℕ
open_parenthesis = 40

abbrev pub close_parenthesis : ℕ
close_parenthesis = 41

abbrev pub plus_sign : ℕ
plus_sign = 43

abbrev pub comma : ℕ
comma = 44

abbrev pub dash : ℕ
dash = 45

abbrev pub dot : ℕ
dot = 46

abbrev pub slash : ℕ
slash = 47

abbrev pub digit_zero : ℕ
digit_zero = 48

abbrev pub digit_nine : ℕ
digit_nine = 57

abbrev pub colon : ℕ
colon = 58

abbrev pub less_sign : ℕ
less_sign = 60

abbrev pub equals_sign : ℕ
equals_sign = 61

abbrev pub greater_sign : ℕ
greater_sign = 62

abbrev pub question_mark : ℕ
question_mark = 63

abbrev pub at_sign : ℕ
at_sign = 64

abbrev pub upper_a : ℕ
upper_a = 65

abbrev pub upper_z : ℕ
upper_z = 90

abbrev pub open_bracket : ℕ
open_bracket = 91

abbrev pub close_bracket : ℕ
close_bracket = 93

abbrev pub underscore : ℕ
underscore = 95

abbrev pub lower_a : ℕ
lower_a = 97

abbrev pub lower_z : ℕ
lower_z = 122

abbrev pub open_brace : ℕ
open_brace = 123

abbrev pub bar : ℕ
bar = 124

abbrev pub close_brace : ℕ
close_brace = 125

abbrev pub tilde : ℕ
tilde = 126

-- ---- kinds of bytes. A test sees a byte and what follows it

-- space, tab, carriage return, line feed; what follows doesn't matter
abbrev pub is_white : ℕ → List ℕ → Bool
is_white b bs = (b == space) || (b == tab) || (b == carriage_return) || (b == line_feed)

abbrev pub is_digit : ℕ → List ℕ → Bool
is_digit b bs = nat_le digit_zero b && nat_le b digit_nine

-- a letter or `_`
abbrev pub is_letter : ℕ → Bool
is_letter b = (nat_le upper_a b && nat_le b upper_z) || (nat_le lower_a b && nat_le b lower_z) ||
    (b == underscore)

-- `%}` or `}}` stands at the front
abbrev pub closes : List ℕ → Bool
closes [] = false
closes (b ∷ []) = false
closes (b ∷ c ∷ cs) = (b == percent || b == close_brace) && (c == close_brace)

-- A word goes on over b, before bs. A `-` directly before a closer isn't taken.
unfoldable pub in_word : ℕ → List ℕ → Bool
in_word b bs = (is_letter b || is_digit b bs || b == dash) && not (b == dash && closes bs)

-- a byte that isn't the quote q
abbrev pub not_quote : ℕ → ℕ → List ℕ → Bool
not_quote q b bs = not (b == q)

abbrev pub opens : List ℕ → Bool
opens [] = false
opens (c ∷ cs) = c == open_brace || c == percent

-- `{{` or `{%` doesn't begin at b, before bs
unfoldable pub plain : ℕ → List ℕ → Bool
plain b bs = not (b == open_brace && opens bs)

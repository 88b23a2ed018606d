-- Kinds of bytes in YAML, and what is cut off at the ends of its texts.
--     without_spaces s      the text without the spaces at its front
--     end_trimmed s      the text without spaces, tabs and carriage returns at its end
--     without_return s      a line without the carriage return of its end
--     is_clean s      no character of the line is a control, or one that YAML reads as an end
use Rattle.std.specs.Prelude.{ℕ, suc, ◌-◌, ◌==◌, ◌||◌, ◌&&◌, not, nat_le, Bool, true, false}
use Rattle.std.specs.Prelude.{List, [], ◌∷◌, length, take, drop, cond, nat_lt, slice_index}
use Rattle.std.specs.Prelude.{Option, Some, None}
use Rattle.std.specs.Borrow.{Bor}
use Rattle.std.specs.List.{after_first, before_first, position_or_len, prefix_len, slice_split}
use Rattle.std.specs.List.{list_all, suffix_len}
use Rattle.std.specs.Str.{chars}
use Rattle.liquid_model.specs.Texts.{Text}
use Rattle.liquid_model.specs.Bytes.{carriage_return, colon, dash, is_digit, is_letter, number_sign}
use Rattle.liquid_model.specs.Bytes.{space, tab}

abbrev pub backslash : ℕ
backslash = 92

abbrev pub is_space_byte : ℕ → Bool
is_space_byte b = b == space

abbrev pub is_trailing : ℕ → Bool
is_trailing b = (b == space) || ((b == tab) || (b == carriage_return))

-- a letter, a digit, `_` or `-`
abbrev pub is_key_byte : ℕ → Bool
is_key_byte b = is_letter b || (is_digit b [] || (b == dash))

abbrev pub spaces_in : Text → ℕ
spaces_in s = prefix_len is_space_byte s

abbrev pub without_spaces : Text → Text
without_spaces s = drop (spaces_in s) s

abbrev pub end_trimmed : Text → Text
end_trimmed s = take (length s - suffix_len is_trailing s) s

-- the part before the first byte c, and what follows that, where it is there
abbrev pub first_part : ℕ → Text → Text × Option Text
first_part c s = cond (nat_lt (position_or_len (λ b. b == c) s) (length s))
    (before_first (λ b. b == c) s, Some (after_first (λ b. b == c) s)) (s, None)

abbrev pub ends_with_return : Text → Bool
ends_with_return s = nat_lt 0 (length s) && slice_index s (length s - 1) == carriage_return

abbrev pub without_return : Text → Text
without_return s = cond (ends_with_return s) (take (length s - 1) s) s

-- no control, no separator of lines or paragraphs, no byte order mark, and not U+FFFE or U+FFFF
abbrev pub is_clean_character : ℕ → Bool
is_clean_character c = nat_le space c && (not (nat_le 127 c && nat_le c 159)
    && (not (c == 8232 || c == 8233) && (not (c == 65279) && not (c == 65534 || c == 65535))))

abbrev pub is_clean : Text → Bool
is_clean s = list_all is_clean_character (chars s)

-- the parts of what is left of a text, cut at each c
abbrev pub parts_left : ℕ → Option Text → List Text
parts_left c None = []
parts_left c (Some s) = slice_split (λ b. b == c) s

abbrev pub left_view : Option (Bor Text) → Option Text
left_view None = None
left_view (Some s) = Some s.now

abbrev pub first_part_view : Bor Text × Option (Bor Text) → Text × Option Text
first_part_view p = (p.0.now, left_view p.1)

-- how many bytes stand before one at which a state stops that each of them changes
abbrev pub state_len : {S : Type 0} → (S → ℕ → Text → Bool) → (S → ℕ → Text → S) → S → Text → ℕ
state_len stops next at [] = 0
state_len stops next at (b ∷ bs) =
    cond (stops at b bs) 0 (suc (state_len stops next (next at b bs) bs))

-- the text is empty, or begins with a space
abbrev pub is_ended : Text → Bool
is_ended [] = true
is_ended (b ∷ bs) = b == space

abbrev pub begins_with_byte : ℕ → Text → Bool
begins_with_byte c [] = false
begins_with_byte c (b ∷ bs) = b == c

-- the text is empty, or begins with `#`
abbrev pub begins_comment : Text → Bool
begins_comment [] = true
begins_comment (b ∷ bs) = b == number_sign

-- nothing; or, where a comment may follow, a space and then spaces and a comment
abbrev pub is_rest : Bool → Text → Bool
is_rest may_note [] = true
is_rest may_note (b ∷ bs) = may_note && (b == space && begins_comment (without_spaces bs))

-- a plain text goes on over b, before bs: b is neither a colon that ends a word nor a space before
-- `#` or at the end
abbrev pub in_plain : ℕ → List ℕ → Bool
in_plain b bs = not (b == colon && is_ended bs) && not (b == space && begins_comment bs)

-- The line of a text that is shown.
--     lines_in text      the lines of a text, between which newlines stand
--     ShowsLine text number line      the line of this number, counted from 1, is shown without the
--                                     white space at its end; none is where the text hasn't it
use Rattle.std.specs.Prelude.{◌≡◌, ◌≢◌, ◌⊎◌, ◌-◌, ◌==◌, ℕ, List, ◌++◌, Option, None, encode_utf8}
use Rattle.std.specs.Prelude.{cond, option_map, slice_get}
use Rattle.std.specs.List.{slice_split}
use Rattle.std.specs.Str.{trim_end}
use Rattle.liquid_model.specs.Texts.{Text}
use Rattle.liquid_files.specs.declared.excerpt.Excerpt.{Excerpt}

abbrev pub lines_in : Text → List Text
lines_in text = slice_split (λ b. b == 10) text

abbrev pub line_numbered : ℕ → List Text → Option Text
line_numbered number lines = cond (number == 0) None (slice_get lines (number - 1))

-- the mark of the byte order
abbrev pub order_mark : Text
order_mark = encode_utf8 0xFEFF

-- a mark at the start is no part of a text
abbrev pub IsUnmarked : Text → Text → Type 0
IsUnmarked text rest = (text ≡ order_mark ++ rest)
    ⊎ (((more : Text) → text ≢ order_mark ++ more) × (rest ≡ text))

abbrev pub ShowsLine : Text → ℕ → Option Text → Type 0
ShowsLine text number line = (rest : Text) × IsUnmarked text rest
    × (line ≡ option_map trim_end (line_numbered number (lines_in rest)))

-- the line that an excerpt shows
abbrev pub excerpt_line : Excerpt → Text
excerpt_line e = e.text.now

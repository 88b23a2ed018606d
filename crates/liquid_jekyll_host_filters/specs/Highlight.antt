-- `highlight`: what Jekyll's block of this name writes where its setting `highlighter` is `none`.
-- The input is the code, and the argument the block's markup: a language and options. A text is
-- seen byte by byte.
use Rattle.std.specs.Prelude.{ℕ, Bool, true, false, ◌||◌, ◌&&◌, ◌==◌, nat_le, List, [], ◌∷◌, ◌++◌}
use Rattle.std.specs.Prelude.{length, map, take, drop, ◌-◌, Ok, Err, codes, if◌then◌else◌}
use Rattle.std.specs.Char.{is_ascii_alphanumeric, is_ascii_digit, to_ascii_lowercase}
use Rattle.std.specs.List.{fold, prefix_len, suffix_len}
use Rattle.liquid_model.specs.Data.{Datum, text, text_of}
use Rattle.liquid_model.specs.Texts.{Text}
use Rattle.liquid_model.specs.Arguments.{Answer}
use Rattle.liquid_model.specs.declared.error.ErrorKind.TheVariants.{InvalidArgument}
use Rattle.liquid_filters.specs.Escapes.{escaped_bytes}
use Rattle.liquid_filters.specs.Operate.{replaced}
use Rattle.liquid_jekyll_host_filters.specs.declared.highlight_markup.MarkupPlace.{MarkupPlace}
use Rattle.liquid_jekyll_host_filters.specs.declared.highlight_markup.MarkupPlace.TheVariants as p

-- ---- what Ruby strips

-- a space, or one of the five controls from tab to carriage return
abbrev pub is_ruby_space : ℕ → Bool
is_ruby_space b = b == 32 || (nat_le 9 b && nat_le b 13)

-- or a zero byte
abbrev pub is_ruby_stripped : ℕ → Bool
is_ruby_stripped b = b == 0 || is_ruby_space b

abbrev pub ruby_end_stripped : Text → Text
ruby_end_stripped s = take (length s - suffix_len is_ruby_stripped s) s

-- a text without what Ruby strips at both ends
abbrev pub ruby_stripped : Text → Text
ruby_stripped s = ruby_end_stripped (drop (prefix_len is_ruby_stripped s) s)

-- ---- the markup: a language, and options after white space. An option is a name, or a name, `=`
-- and a word, or a name, `=` and numbers in double quotes with one white space between each and the
-- next

-- letters, digits and `.+#_-`
abbrev pub in_language : ℕ → Bool
in_language b = is_ascii_alphanumeric b || b == 46 || b == 43 || b == 35 || b == 95 || b == 45

-- letters, digits and `_`
abbrev pub in_option : ℕ → Bool
in_option b = is_ascii_alphanumeric b || b == 95

-- after the language or a whole option
abbrev pub gap_after : ℕ → MarkupPlace
gap_after b = if is_ruby_space b then p.Gap else p.Refused

-- where the markup is after one byte more
abbrev pub next_in_markup : MarkupPlace → ℕ → MarkupPlace
next_in_markup p.Start b = if in_language b then p.Language else p.Refused
next_in_markup p.Language b = if in_language b then p.Language else gap_after b
next_in_markup p.Gap b = if in_option b then p.Name else gap_after b
next_in_markup p.Name b = if in_option b then p.Name else (if b == 61 then p.Equals
    else gap_after b)
next_in_markup p.Equals b = if in_option b then p.Value else (if b == 34 then p.Quote
    else p.Refused)
next_in_markup p.Value b = if in_option b then p.Value else gap_after b
next_in_markup p.Quote b = if is_ascii_digit b then p.Number else p.Refused
next_in_markup p.Number b = if is_ascii_digit b then p.Number else (if b == 34 then p.Closed
    else (if is_ruby_space b then p.Quote else p.Refused))
next_in_markup p.Closed b = gap_after b
next_in_markup p.Refused b = p.Refused

-- a markup may end after the language and after a whole option
abbrev pub may_end : MarkupPlace → Bool
may_end p.Language = true
may_end p.Name = true
may_end p.Value = true
may_end p.Closed = true
may_end _ = false

abbrev pub is_markup : Text → Bool
is_markup s = may_end (fold next_in_markup p.Start s)

-- ---- what is written

-- the language that a markup begins with, in lower case
abbrev pub code_language : Text → Text
code_language s = map to_ascii_lowercase (take (prefix_len in_language s) s)

-- code in HTML, in a language; the name of its class has `-` for `+`
abbrev pub code_figure : Text → Text → Text
code_figure language code =
    codes "<figure class=\"highlight\"><pre><code class=\"language-" ++
    (replaced (codes "+") (codes "-") language ++ (codes "\" data-lang=\"" ++ (language ++
    (codes "\">" ++ (code ++ codes "</code></pre></figure>")))))

-- the code without what Ruby strips, and with the escapes of `escape`
unfoldable pub code_in_html : Text → Text → Answer
code_in_html markup code = if is_markup markup
    then Ok (text (code_figure (code_language markup) (escaped_bytes (ruby_stripped code))))
    else Err InvalidArgument

-- `highlight`
abbrev pub jekyll_highlight_answer : Datum → List Datum → Answer
jekyll_highlight_answer d [] = Err InvalidArgument
jekyll_highlight_answer d (markup ∷ args) =
    code_in_html (ruby_stripped (text_of markup)) (text_of d)

-- Where in a page of HTML a text ends: among its text, in a tag, or in the value of an attribute.
--     next_place p c      where a character leads to
--     place_after p cs      where these characters lead to
use Rattle.std.specs.Prelude.{ℕ, Bool, true, false, cond, ◌==◌, ◌||◌, List, [], ◌∷◌}
use Rattle.std.specs.Char.{is_ascii_alphabetic}
use Rattle.liquid_warnings.specs.declared.html_place.HtmlPlace.{HtmlPlace}
use Rattle.liquid_warnings.specs.declared.html_place.HtmlPlace.TheVariants.{Text, Opened, Tag}
use Rattle.liquid_warnings.specs.declared.html_place.HtmlPlace.TheVariants.{Value, Bare, Double}
use Rattle.liquid_warnings.specs.declared.html_place.HtmlPlace.TheVariants.{Single}

-- a space, a tab or a line end
abbrev pub is_blank : ℕ → Bool
is_blank c = (c == 32) || (c == 9) || (c == 10) || (c == 13)

-- a < opens a tag before a letter and before a /, and else is text
abbrev pub after_open : ℕ → HtmlPlace
after_open c = cond (is_ascii_alphabetic c || (c == 47)) Tag Text

-- the places that a > and quotes lead to
abbrev pub after_tag : HtmlPlace → ℕ → HtmlPlace
after_tag other c =
    cond (c == 62) Text (cond (c == 34) Double (cond (c == 39) Single other))

abbrev pub next_place : HtmlPlace → ℕ → HtmlPlace
next_place Text c = cond (c == 60) Opened Text
next_place Opened c = after_open c
-- after a = stands a value
next_place Tag c = after_tag (cond (c == 61) Value Tag) c
-- one without quotes begins with whatever is no blank
next_place Value c = after_tag (cond (is_blank c) Value Bare) c
next_place Bare c = cond (c == 62) Text (cond (is_blank c) Tag Bare)
next_place Double c = cond (c == 34) Tag Double
next_place Single c = cond (c == 39) Tag Single

abbrev pub place_after : HtmlPlace → List ℕ → HtmlPlace
place_after p [] = p
place_after p (c ∷ cs) = place_after (next_place p c) cs

-- the place after an output: a tag's name or a value has begun
abbrev pub after_output : HtmlPlace → HtmlPlace
after_output Opened = Tag
after_output Value = Bare
after_output p = p

-- whether what is written there is part of a value
abbrev pub is_in_attribute : HtmlPlace → Bool
is_in_attribute Text = false
is_in_attribute Opened = false
is_in_attribute Tag = false
is_in_attribute Value = true
is_in_attribute Bare = true
is_in_attribute Double = true
is_in_attribute Single = true

-- A part of a source made text: a blank stands in place of each `{` of it, so that no output and no
-- tag opens there, and every other character stands where it stood.
--     blanked text      the text with the blanks
--     IsBlanked start count old new      the source with blanks in the `count` bytes after the
--                                        first `start`
use Rattle.std.specs.Prelude.{◌≡◌, ◌==◌, ℕ, ◌++◌, cond, length, map}
use Rattle.std.specs.Str.{chars, encode_utf8_all}
use Rattle.liquid_model.specs.Texts.{Text}

-- a blank in place of a `{`
abbrev pub blank_for : ℕ → ℕ
blank_for c = cond (c == 123) 32 c

-- character by character
abbrev pub blanked : Text → Text
blanked text = encode_utf8_all (map blank_for (chars text))

pub record IsBlanked (start count : ℕ) (old new : Text) : Type 0 where
  pub front : Text
  pub piece : Text
  pub after : Text
  pub start_is : length front ≡ start
  pub count_is : length piece ≡ count
  pub old_is : old ≡ front ++ (piece ++ after)
  pub new_is : new ≡ front ++ (blanked piece ++ after)

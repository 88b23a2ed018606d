-- The template of a call, and what stands beside it.
--     place_words text first second      what the two words are that no option takes
use Rattle.std.specs.Prelude.{Option, Some, None, option_map}
use Rattle.liquid_commands.specs.Words.{CommandWord}
use Rattle.liquid_commands.specs.declared.template_word.PlacedWords.{PlacedWords}
use Rattle.liquid_commands.specs.declared.template_word.TemplateWord.{TemplateWord}
use Rattle.liquid_commands.specs.declared.template_word.TemplateWord.TheVariants.{Path, Text}

-- in a file, or on the command line itself
pub data Place : Type 0 where
  in_file : CommandWord → Place
  given : CommandWord → Place

abbrev pub template_place : TemplateWord → Place
template_place (Path p) = in_file p.now
template_place (Text t) = given t.now

-- the template, and the file of the data or the records
pub record Beside : Type 0 where
  pub template : Option Place
  pub other : Option CommandWord

abbrev pub words_beside : PlacedWords → Beside
words_beside p = record {
  template = option_map template_place p.template;
  other = option_map (λ w. w.now) p.other;
}

abbrev pub file_of : Option CommandWord → Option Place
file_of path = option_map in_file path

-- the first word is the template's file, unless its text is given: then it is the other, and
-- there is no second
abbrev pub place_words : Option CommandWord → Option CommandWord → Option CommandWord →
    Option Beside
place_words None first second = Some (record { template = file_of first; other = second })
place_words (Some text) first None = Some (record { template = Some (given text); other = first })
place_words (Some text) first (Some word) = None

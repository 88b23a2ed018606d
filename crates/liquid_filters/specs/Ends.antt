-- The end items of a list, the end characters of a text, and the filters `first` and `last`.
use Rattle.std.specs.Prelude.{ℕ, ◌-◌, List, [], Ok, Err, Option, Some, None, length, slice_get}
use Rattle.std.specs.Char.{encode_utf8}
use Rattle.std.specs.Str.{chars}
use Rattle.liquid_model.specs.Data.{Datum, nil, text, array, object, Items, text_of}
use Rattle.liquid_model.specs.Find.{item_at, item_back}
use Rattle.liquid_model.specs.Texts.{Text}
use Rattle.liquid_model.specs.declared.error.ErrorKind.TheVariants.{InvalidInput}
use Rattle.liquid_model.specs.Arguments.{Answer}

-- the text of a character, or the empty text
abbrev pub character : Option ℕ → Text
character (Some c) = encode_utf8 c
character None = []

abbrev pub or_nil : Option Datum → Datum
or_nil (Some d) = d
or_nil None = nil

-- a list's first item, or nil
abbrev pub first_item : Items → Datum
first_item ds = or_nil (item_at 0 ds)

-- a list's last item, or nil
abbrev pub last_item : Items → Datum
last_item ds = or_nil (item_back 1 ds)

-- the first character, or the empty text
abbrev pub first_character : Text → Text
first_character s = character (slice_get (chars s) 0)

-- the last character, or the empty text
abbrev pub last_character : Text → Text
last_character s = character (slice_get (chars s) (length (chars s) - 1))

abbrev pub first_answer : Datum → List Datum → Answer
first_answer (array ds) args = Ok (first_item ds)
first_answer nil args = Err InvalidInput
first_answer (object ps) args = Err InvalidInput
first_answer d args = Ok (text (first_character (text_of d)))

abbrev pub last_answer : Datum → List Datum → Answer
last_answer (array ds) args = Ok (last_item ds)
last_answer nil args = Err InvalidInput
last_answer (object ps) args = Err InvalidInput
last_answer d args = Ok (text (last_character (text_of d)))

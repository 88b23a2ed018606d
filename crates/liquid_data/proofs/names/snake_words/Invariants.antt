use Rattle.std.proofs.Common.{◌≡◌, ◌++◌, string_bytes}
use Rattle.std.specs.Str.{chars, encode_utf8_all, IsUtf8}
use Rattle.liquid_data.specs.Names.{name_shown, snake_words}
use Rattle.liquid_data.proofs.names.snake_words.Given as goal

-- the words so far and those of what is left are those of the whole name
abbrev pub invariant-loop-letter : goal.invariant-loop-letter
invariant-loop-letter l =
    IsUtf8 l.rest.rest.now
    × (snake_words l.name
    ≡ string_bytes l.words ++ encode_utf8_all (name_shown l.place (chars l.rest.rest.now)))

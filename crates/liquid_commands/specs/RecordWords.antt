-- What says how records are written: the words of a call, the path, and the front of the text.
--     records_format word path      as the word says, or without one as the path ends
--     guessed_format front      as the text begins
--     delimiter_of word, delimiter_of_path path      the byte between the cells of a table
--     is_records_name path      whether a file is named as a table or as lines of JSON
--     are_texts word      whether each cell is a text
--     are_snake word      whether columns are named in snake case
use Rattle.std.specs.Prelude.{ℕ, ◌==◌, Bool, false, not, ◌&&◌, ◌||◌, cond, nat_lt, List, [], ◌∷◌}
use Rattle.std.specs.Prelude.{codes, bytes_eq, is_some, Option, Some, None}
use Rattle.std.specs.Char.{is_ascii_whitespace}
use Rattle.liquid_commands.specs.Words.{CommandWord, has_ending}
use Rattle.liquid_commands.specs.declared.record_words.RecordsFormat.{RecordsFormat}
use Rattle.liquid_commands.specs.declared.record_words.RecordsFormat.TheVariants.{Lines}
use Rattle.liquid_commands.specs.declared.record_words.RecordsFormat.TheVariants.{List as Items}
use Rattle.liquid_commands.specs.declared.record_words.RecordsFormat.TheVariants.{Table}

-- a tab, where the path ends so
abbrev pub delimiter_of_path : CommandWord → Option ℕ
delimiter_of_path path =
    cond (has_ending (codes ".tsv") path || has_ending (codes ".TSV") path) (Some 9) None

-- whether it ends as that of a table with commas or with tabs
abbrev pub is_table_path : CommandWord → Bool
is_table_path path = has_ending (codes ".csv") path || (has_ending (codes ".CSV") path
    || (has_ending (codes ".tsv") path || has_ending (codes ".TSV") path))

abbrev pub format_of_path : CommandWord → Option RecordsFormat
format_of_path path = cond (is_table_path path) (Some Table)
    (cond (has_ending (codes ".jsonl") path || has_ending (codes ".ndjson") path) (Some Lines) None)

-- whether it ends as that of records does
abbrev pub is_records_name : CommandWord → Bool
is_records_name path = is_some (format_of_path path)

abbrev pub format_named : CommandWord → RecordsFormat
format_named word = cond (bytes_eq word (codes "csv")) Table
    (cond (bytes_eq word (codes "json")) Items Lines)

abbrev pub records_format : Option CommandWord → CommandWord → Option RecordsFormat
records_format None path = format_of_path path
records_format (Some word) path = Some (format_named word)

-- `{` begins a line, `[` a list, and all else a table
abbrev pub format_after : ℕ → RecordsFormat
format_after b = cond (b == 0x7B) Lines (cond (b == 0x5B) Items Table)

-- by the first byte that is no white space; without one there are no records
abbrev pub guessed_format : List ℕ → RecordsFormat
guessed_format [] = Lines
guessed_format (b ∷ bs) = cond (is_ascii_whitespace b) (guessed_format bs) (format_after b)

-- one of ASCII, no quote and no line end
abbrev pub may_part_cells : ℕ → Bool
may_part_cells b = nat_lt b 128 && (not (b == 34) && (not (b == 10) && not (b == 13)))

abbrev pub delimiter_in : CommandWord → Option ℕ
delimiter_in [] = None
delimiter_in (b ∷ []) = cond (may_part_cells b) (Some b) None
delimiter_in (b ∷ c ∷ bs) = None

-- a name of the byte, or the byte itself
abbrev pub delimiter_of : CommandWord → Option ℕ
delimiter_of word = cond (bytes_eq word (codes "tab")) (Some 9)
    (cond (bytes_eq word (codes "comma")) (Some 44)
    (cond (bytes_eq word (codes "semicolon")) (Some 59) (delimiter_in word)))

abbrev pub are_texts : Option CommandWord → Bool
are_texts None = false
are_texts (Some word) = bytes_eq word (codes "text")

abbrev pub are_snake : Option CommandWord → Bool
are_snake None = false
are_snake (Some word) = bytes_eq word (codes "snake")

-- What single words of a call mean.
--     data_file word      a file of data, with its name where the word is NAME=FILE
--     named_value word      a value under its name, where the word is NAME=TEXT or NAME:=JSON
--     gap_of word      what such a word lacks, and gap_text what is said of it
--     filter_set, missing_of, format_of      what the values of options ask for
--     assets_fault set address      what is wrong with an address of assets
--     leaves_folder true pattern      whether a pattern of names leaves the folder that they are in
--     out_file word      the file that a word after --out names
--     is_template_name path, is_yaml path      whether a file is named as a template, as YAML
--     is_template_path word      whether a word is a path rather than a command
--     habit_tip word      what stands here for an option that other programs have
--     is_selected number from count      whether a record is among those that are asked for
use Rattle.std.specs.Prelude.{ℕ, Bool, true, false, cond, ◌||◌, ◌&&◌, ◌-◌, ◌==◌, nat_lt}
use Rattle.std.specs.Prelude.{length, nat_le, option_and_then, take}
use Rattle.std.specs.Prelude.{List, [], ◌∷◌, drop, codes, bytes_eq, Option, Some, None, option_map}
use Rattle.std.specs.Borrow.{Bor}
use Rattle.std.specs.Int.{is_in_range}
use Rattle.std.specs.List.{list_all, list_any, after_first, before_first, position_or_len}
use Rattle.liquid_core.specs.declared.missing_value.Missing.{Missing}
use Rattle.liquid_core.specs.declared.missing_value.Missing.TheVariants.{IsFault, IsNil}
use Rattle.liquid_commands.specs.declared.diagnostic.DiagnosticFormat.{DiagnosticFormat}
use Rattle.liquid_commands.specs.declared.diagnostic.DiagnosticFormat.TheVariants.{Text, Json}
use Rattle.liquid_commands.specs.declared.diagnostic.DiagnosticFormat.TheVariants.{Github}
use Rattle.liquid_commands.specs.declared.values.NamedValue.{NamedValue}
use Rattle.liquid_commands.specs.declared.words.DataFile.{DataFile}
use Rattle.liquid_commands.specs.declared.words.FilterSet.{FilterSet}
use Rattle.liquid_commands.specs.declared.words.FilterSet.TheVariants.{Decimals, Jekyll, Shopify}
use Rattle.liquid_commands.specs.declared.words.Gap.{Gap}
use Rattle.liquid_commands.specs.declared.words.Gap.TheVariants as gap

abbrev pub CommandWord : Type 0
CommandWord = List ℕ

-- a file, and the name that it is given in a template
pub record Named : Type 0 where
  pub name : Option CommandWord
  pub path : CommandWord

abbrev pub file_view : DataFile → Named
file_view f = record { name = option_map (λ n. n.now) f.name; path = f.path.now }

abbrev pub split_view : Option (Bor CommandWord × Bor CommandWord) →
    Option (CommandWord × CommandWord)
split_view parts = option_map (λ p. (p.0.now, p.1.now)) parts

-- the texts before and after the first `=`
abbrev pub split_at_equals : CommandWord → Option (CommandWord × CommandWord)
split_at_equals word = cond (nat_lt (position_or_len (λ b. b == 61) word) (length word))
    (Some (before_first (λ b. b == 61) word, after_first (λ b. b == 61) word)) None

abbrev pub file_of : CommandWord → Option (CommandWord × CommandWord) → Named
file_of word None = record { name = None; path = word }
file_of word (Some p) = record { name = Some p.0; path = p.1 }

abbrev pub data_file : CommandWord → Named
data_file word = file_of word (split_at_equals word)

-- what is said of it
abbrev pub gap_text : Gap → CommandWord
gap_text gap.Name = codes "there is no name before `=`; write NAME=FILE"
gap_text gap.Path = codes "there is no path; write a path, or NAME=FILE"
gap_text gap.Value = codes "it gives no name a value; write -D NAME=TEXT or -D NAME:=JSON"

abbrev pub gap_of_path : CommandWord → Option Gap
gap_of_path [] = Some gap.Path
gap_of_path (b ∷ bs) = None

abbrev pub gap_of_parts : CommandWord → CommandWord → Option Gap
gap_of_parts [] path = Some gap.Name
gap_of_parts (b ∷ bs) path = gap_of_path path

abbrev pub gap_found : CommandWord → Option (CommandWord × CommandWord) → Option Gap
gap_found word None = gap_of_path word
gap_found word (Some p) = gap_of_parts p.0 p.1

-- a name before its first `=`, and a path
abbrev pub gap_of : CommandWord → Option Gap
gap_of word = gap_found word (split_at_equals word)

abbrev pub has_ending : CommandWord → CommandWord → Bool
has_ending ending path = cond (nat_le (length ending) (length path))
    (bytes_eq (drop (length path - length ending) path) ending) false

-- a value, and the name that it is given in a template; its word is a text, or JSON
pub record GivenValue : Type 0 where
  pub name : CommandWord
  pub word : CommandWord
  pub is_json : Bool

abbrev pub value_view : NamedValue → GivenValue
value_view v = record { name = v.name.now; word = v.word.now; is_json = v.is_json }

abbrev pub value_named : Bool → CommandWord → CommandWord → Option GivenValue
value_named json [] word = None
value_named json (b ∷ bs) word = Some (record { name = b ∷ bs; word = word; is_json = json })

-- JSON where a `:` ends what stands before the `=`, and else a text
abbrev pub value_of_parts : CommandWord → CommandWord → Option GivenValue
value_of_parts before word = cond (has_ending (codes ":") before)
    (value_named true (take (length before - 1) before) word) (value_named false before word)

-- by what stands before and after the first `=`
abbrev pub named_value : CommandWord → Option GivenValue
named_value word = option_and_then (λ p. value_of_parts p.0 p.1) (split_at_equals word)

abbrev pub set_named : CommandWord → Option FilterSet
set_named name = cond (bytes_eq name (codes "jekyll")) (Some Jekyll)
    (cond (bytes_eq name (codes "shopify")) (Some Shopify)
    (cond (bytes_eq name (codes "decimals")) (Some Decimals) None))

-- the set of a name, where one is given
abbrev pub filter_set : Option CommandWord → Option FilterSet
filter_set None = None
filter_set (Some name) = set_named name

-- a missing value is a fault, but where the word is nil
abbrev pub missing_of : Option CommandWord → Missing
missing_of None = IsFault
missing_of (Some word) = cond (bytes_eq word (codes "nil")) IsNil IsFault

-- `-` is standard output, as where no word is given
abbrev pub out_file : Option CommandWord → Option CommandWord
out_file None = None
out_file (Some word) = cond (bytes_eq word (codes "-")) None (Some word)

abbrev pub format_named : CommandWord → DiagnosticFormat
format_named name = cond (bytes_eq name (codes "json")) Json
    (cond (bytes_eq name (codes "github")) Github Text)

-- the format of a name, and without one that for people
abbrev pub format_of : Option CommandWord → DiagnosticFormat
format_of None = Text
format_of (Some name) = format_named name

-- before the first `{` of what is left a part has nothing but dots, after one that so far has
-- nothing else, or has
abbrev pub leaves_folder : Bool → CommandWord → Bool
leaves_folder dots [] = false
leaves_folder dots (b ∷ bs) = cond (b == 123) false
    (cond (b == 47) (cond dots true (leaves_folder true bs)) (leaves_folder (dots && b == 46) bs))

-- what is said of an address of assets that isn't beside Shopify's filters, or after which a name
-- of a file would go on with its last part
abbrev pub assets_fault : Option FilterSet → CommandWord → Option CommandWord
assets_fault (Some Shopify) address = cond (has_ending (codes "/") address) None
    (Some (codes "the address after --assets has no `/` at its end"))
assets_fault (Some Decimals) address =
    Some (codes "--assets is for Shopify's filters: write --filters shopify")
assets_fault (Some Jekyll) address =
    Some (codes "--assets is for Shopify's filters: write --filters shopify")
assets_fault None address =
    Some (codes "--assets is for Shopify's filters: write --filters shopify")

-- as its path ends
abbrev pub is_template_name : CommandWord → Bool
is_template_name path = has_ending (codes ".liquid") path || has_ending (codes ".html") path

abbrev pub is_yaml : CommandWord → Bool
is_yaml path = has_ending (codes ".yaml") path || has_ending (codes ".yml") path

-- at most `count` records, from the one with the number `from` on
abbrev pub is_selected : ℕ → ℕ → ℕ → Bool
is_selected number from count = cond (nat_le from number) (nat_lt (number - from) count) false

-- `+ , - . /`, a digit, a letter, and `: = @ _`
abbrev pub is_plain_byte : ℕ → Bool
is_plain_byte b = is_in_range 0x2B 0x3A b || ((b == 0x3D) || (is_in_range 0x40 0x5A b
    || ((b == 0x5F) || is_in_range 0x61 0x7A b)))

-- no shell reads it otherwise
abbrev pub is_plain_word : CommandWord → Bool
is_plain_word word = list_all is_plain_byte word

-- a dot or a slash
abbrev pub is_path_byte : ℕ → Bool
is_path_byte b = (b == 0x2E) || (b == 0x2F)

abbrev pub is_template_path : CommandWord → Bool
is_template_path word = is_plain_word word && list_any is_path_byte word

-- what stands here for an option that other programs have
abbrev pub habit_tip : CommandWord → Option CommandWord
habit_tip word = cond (bytes_eq word (codes "--var") || (bytes_eq word (codes "--set")
    || bytes_eq word (codes "--arg"))) (Some (codes "-D NAME=TEXT gives a value"))
    (cond (bytes_eq word (codes "-v")) (Some (codes "-V prints the version")) None)

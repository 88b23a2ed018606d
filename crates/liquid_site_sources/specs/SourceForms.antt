-- What the files of a site give as data, by the ends of their paths.
--     site_data name text      the value of a data file of this name below the folder of data
--     site_config path text      the members of a configuration
--     file_stem name      a file's name without its suffix
use Rattle.std.specs.Prelude.{ℕ, ◌-◌, ◌==◌, ◌||◌, ◌&&◌, not, nat_le, nat_lt, Bool, false, cond}
use Rattle.std.specs.Prelude.{length, take, drop, slice_index, bytes_eq, codes}
use Rattle.std.specs.Prelude.{Result, Ok, Err}
use Rattle.std.specs.List.{list_all, suffix_len}
use Rattle.std.specs.Path.{dot, slash}
use Rattle.liquid_model.specs.Data.{Datum, object, Pairs}
use Rattle.liquid_model.specs.Texts.{Text}
use Rattle.liquid_model.specs.declared.error.ErrorKind.{ErrorKind}
use Rattle.liquid_model.specs.declared.error.ErrorKind.TheVariants.{InvalidInput}
use Rattle.liquid_data.specs.TomlData.{toml_document_data}
use Rattle.liquid_json.specs.Json.{data_of, value_in}
use Rattle.liquid_yaml.specs.Reading.{yaml_data, yaml_value}

abbrev pub has_file_end : Text → Text → Bool
has_file_end path e = cond (nat_le (length e) (length path))
    (bytes_eq (drop (length path - length e) path) e) false

-- neither a dot nor a slash
abbrev pub in_suffix : ℕ → Bool
in_suffix b = not (b == dot) && not (b == slash)

abbrev pub suffix_start : Text → ℕ
suffix_start s = length s - suffix_len in_suffix s

-- up to the last dot, where no slash follows it
abbrev pub file_stem : Text → Text
file_stem s = cond (nat_lt 0 (suffix_start s) && slice_index s (suffix_start s - 1) == dot)
    (take (suffix_start s - 1) s) s

abbrev pub is_yaml_path : Text → Bool
is_yaml_path path = has_file_end path (codes ".yml") || has_file_end path (codes ".yaml")

abbrev pub object_found : Result Pairs ErrorKind → Result Datum ErrorKind
object_found (Ok ps) = Ok (object ps)
object_found (Err kind) = Err kind

abbrev pub data_by_end : Text → Text → Result Datum ErrorKind
data_by_end name text = cond (is_yaml_path name) (yaml_value text)
    (cond (has_file_end name (codes ".json")) (value_in text)
    (cond (has_file_end name (codes ".toml")) (object_found (toml_document_data text))
    (Err InvalidInput)))

-- YAML, JSON or TOML, and nothing else, in the folder itself
abbrev pub site_data : Text → Text → Result Datum ErrorKind
site_data name text =
    cond (list_all (λ b. not (b == slash)) name) (data_by_end name text) (Err InvalidInput)

-- YAML, TOML, or else JSON
abbrev pub site_config : Text → Text → Result Pairs ErrorKind
site_config path text = cond (is_yaml_path path) (yaml_data text)
    (cond (has_file_end path (codes ".toml")) (toml_document_data text) (data_of text))

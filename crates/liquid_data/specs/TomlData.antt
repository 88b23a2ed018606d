-- The data that a document of TOML gives.
--     toml_document_data source      the data of a text
use Rattle.std.specs.Prelude.{cond, List, ℕ, Option, Some, None, Result, Ok, Err}
use Rattle.toml.specs.Data as toml
use Rattle.toml.specs.Parse.{parse_document}
use Rattle.toml_datetime.specs.Text.{datetime_text}
use Rattle.liquid_model.specs.Data.{Datum, nil, truth, number, text, array, object, Items, no_items}
use Rattle.liquid_model.specs.Data.{item, Pairs, no_pairs, put}
use Rattle.liquid_model.specs.declared.error.ErrorKind.{ErrorKind}
use Rattle.liquid_model.specs.declared.error.ErrorKind.TheVariants.{InvalidInput, Float}
use Rattle.liquid_data.specs.Floats.{have_floats}

-- Each value as it stands, a date or a time as the text of its spelling. Where this is asked no
-- float is left, so what stands for one is never seen.
abbrev mutual
  pub toml_datum : toml.Data → Datum
  toml_datum (toml.string s) = text s
  toml_datum (toml.integer z) = number z
  toml_datum (toml.float x) = nil
  toml_datum (toml.boolean b) = truth b
  toml_datum (toml.datetime dt) = text (datetime_text dt)
  toml_datum (toml.array ds) = array (toml_list_items ds)
  toml_datum (toml.table ms) = object (pairs_from no_pairs ms)

  pub toml_list_items : toml.Items → Items
  toml_list_items toml.no_items = no_items
  toml_list_items (toml.item d ds) = item (toml_datum d) (toml_list_items ds)

  -- after what was found
  pub pairs_from : Pairs → toml.Members → Pairs
  pairs_from found toml.no_members = found
  pairs_from found (toml.member k d ms) = pairs_from (put k (toml_datum d) found) ms

abbrev pub toml_pairs : toml.Members → Pairs
toml_pairs ms = pairs_from no_pairs ms

-- a document with a float is refused
abbrev pub unless_float : toml.Members → Result Pairs ErrorKind
unless_float ms = cond (have_floats ms) (Err Float) (Ok (toml_pairs ms))

abbrev pub read_if : Option toml.Members → Result Pairs ErrorKind
read_if None = Err InvalidInput
read_if (Some ms) = unless_float ms

abbrev pub toml_document_data : List ℕ → Result Pairs ErrorKind
toml_document_data source = read_if (parse_document source)

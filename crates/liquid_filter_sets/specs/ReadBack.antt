-- What `jsonify` and `json` write of a value, read as JSON again.
use Rattle.std.specs.Prelude.{◌≡◌, ◌<◌, ◌≤◌, ℕ, suc, max, ⊤, IsTrue, List, [], ◌∷◌, Option}
use Rattle.std.specs.Prelude.{Some, None, Ok, Err}
use Rattle.std.specs.Cmp.Lexicographic.{slice_cmp}
use Rattle.std.specs.List.Sorted.{IsStrictlySortedBy}
use Rattle.std.specs.Ordering.{nat_cmp}
use Rattle.serde_json.specs.Data.{Data}
use Rattle.serde_json.specs.Read.{read, max_depth}
use Rattle.liquid_model.specs.Data.{Datum, nil, truth, number, text, array, object, Items, no_items}
use Rattle.liquid_model.specs.Data.{item, Pairs, no_pairs, pair, text_of}
use Rattle.liquid_model.specs.Fallible.{◌>>=◌}
use Rattle.liquid_model.specs.Texts.{Text}
use Rattle.liquid_model.specs.Whole.{fits}
use Rattle.liquid_model.specs.declared.error.ErrorKind.TheVariants.{InvalidInput}
use Rattle.liquid_model.specs.Arguments.{Answer}
use Rattle.liquid_json.specs.Json.{data_of, datum_of}
use Rattle.liquid_json.specs.JsonTexts.{json_text}
use Rattle.liquid_json.specs.ScriptTexts.{script_json}
use Rattle.liquid_jekyll_host_filters.specs.Json.{jsonify_answer}

-- the value that a text of JSON is
abbrev pub value_read : Option Data → Answer
value_read (Some d) = datum_of d
value_read None = Err InvalidInput

-- a value's text, read as JSON
abbrev pub read_as_json : Datum → Answer
read_as_json d = value_read (read (text_of d))

-- what `jsonify` writes of a value, read as JSON
abbrev pub read_back : Datum → Answer
read_back d = jsonify_answer d [] >>= read_as_json

-- a value's JSON without the escapes for scripts, read as JSON
abbrev pub json_read_back : Datum → Answer
json_read_back d = value_read (read (json_text d))

-- how deep lists and maps nest
abbrev mutual
  pub datum_depth : Datum → ℕ
  datum_depth nil = 0
  datum_depth (truth b) = 0
  datum_depth (number z) = 0
  datum_depth (text s) = 0
  datum_depth (array ds) = suc (items_depth ds)
  datum_depth (object ms) = suc (pairs_depth ms)

  pub items_depth : Items → ℕ
  items_depth no_items = 0
  items_depth (item d ds) = max (datum_depth d) (items_depth ds)

  pub pairs_depth : Pairs → ℕ
  pairs_depth no_pairs = 0
  pairs_depth (pair k d ms) = max (datum_depth d) (pairs_depth ms)

abbrev pub pair_names : Pairs → List Text
pair_names no_pairs = []
pair_names (pair k d ms) = k ∷ pair_names ms

abbrev pub HasAscendingKeys : Pairs → Type 0
HasAscendingKeys ms = IsStrictlySortedBy (slice_cmp nat_cmp) (pair_names ms)

-- what every value is: its numbers are within 64 bits, and the keys of each map ascend
abbrev mutual
  pub IsWellFormed : Datum → Type 0
  IsWellFormed nil = ⊤
  IsWellFormed (truth b) = ⊤
  IsWellFormed (number z) = IsTrue (fits z)
  IsWellFormed (text s) = ⊤
  IsWellFormed (array ds) = AreWellFormedItems ds
  IsWellFormed (object ms) = HasAscendingKeys ms × HasWellFormedValues ms

  pub AreWellFormedItems : Items → Type 0
  AreWellFormedItems no_items = ⊤
  AreWellFormedItems (item d ds) = IsWellFormed d × AreWellFormedItems ds

  pub HasWellFormedValues : Pairs → Type 0
  HasWellFormedValues no_pairs = ⊤
  HasWellFormedValues (pair k d ms) = IsWellFormed d × HasWellFormedValues ms

-- what `jsonify` writes is read as the value again, where lists and maps nest at most 127 deep
abbrev pub JsonifyIsReadBack : Type 0
JsonifyIsReadBack = (d : Datum) → IsWellFormed d → datum_depth d ≤ max_depth → read_back d ≡ Ok d

-- of a map it is the text of data that are the map
abbrev pub DataAreReadBack : Type 0
DataAreReadBack = (ms : Pairs) → IsWellFormed (object ms) → datum_depth (object ms) ≤ max_depth →
    data_of (script_json (object ms)) ≡ Ok ms

-- what nests deeper is refused
abbrev pub DeeperIsRefused : Type 0
DeeperIsRefused = (d : Datum) → IsWellFormed d → max_depth < datum_depth d → read_back d ≡
    Err InvalidInput

-- A JSON Schema of what a template asks of its data.
--     schema_text members      the schema of data of which this is asked, and a line end
--     use_tokens u      the tokens of the schema of a value of which this is asked
-- A schema has a property for each member that is asked for, and `items` where a loop goes over the
-- items. It requires nothing and refuses no value, so where no part is asked for it is `{}`.
use Rattle.std.specs.Prelude.{Bool, true, false, List, [], ◌∷◌, ◌++◌, codes}
use Rattle.json.specs.Layout.{pretty}
use Rattle.json.specs.Token.{Token}
use Rattle.liquid_model.specs.Texts.{Text}
use Rattle.liquid_model.specs.Uses.{Use, nothing, everything, parts, Fields, no_fields, field}
use Rattle.liquid_model.specs.Uses.{ItemUse, uncounted, up_to}

-- a text under a key
abbrev pub entry_tokens : Text → Text → List Token
entry_tokens key text = Token.key key ∷ (Token.string text ∷ [])

abbrev pub are_none : Fields → Bool
are_none no_fields = true
are_none (field key u more) = false

abbrev pub bare_tokens : List Token
bare_tokens = Token.begin_object ∷ (Token.end_object ∷ [])

-- what stands before the first property
abbrev pub properties_start : List Token
properties_start = Token.key (codes "properties") ∷ (Token.begin_object ∷ [])

-- the properties, where there are some; inner has each of them, and the bracket after the last
abbrev pub unless_none : Bool → List Token → List Token
unless_none true inner = []
unless_none false inner = properties_start ++ inner

abbrev mutual
  pub use_tokens : Use → List Token
  use_tokens nothing = bare_tokens
  use_tokens everything = bare_tokens
  use_tokens (parts members turns) = Token.begin_object
      ∷ (unless_none (are_none members) (property_tokens members)
      ++ (item_use_tokens turns ++ (Token.end_object ∷ [])))

  -- each key with its schema, and the bracket after the last
  pub property_tokens : Fields → List Token
  property_tokens no_fields = Token.end_object ∷ []
  property_tokens (field key u more) = Token.key key ∷ (use_tokens u ++ property_tokens more)

  -- what a loop goes over
  pub item_use_tokens : ItemUse → List Token
  item_use_tokens uncounted = []
  item_use_tokens (up_to n u) = Token.key (codes "items") ∷ use_tokens u

abbrev pub properties_tokens : Fields → List Token
properties_tokens members = properties_start ++ property_tokens members

-- the tokens of the whole schema, which names the draft that it is of
abbrev pub schema_tokens : Fields → List Token
schema_tokens members = Token.begin_object
    ∷ (entry_tokens (codes "$schema") (codes "https://json-schema.org/draft/2020-12/schema")
    ++ (entry_tokens (codes "type") (codes "object")
    ++ (properties_tokens members ++ (Token.end_object ∷ []))))

abbrev pub schema_text : Fields → Text
schema_text members = pretty (schema_tokens members) ++ codes "\n"

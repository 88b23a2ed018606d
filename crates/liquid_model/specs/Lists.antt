-- Lists and objects as lists of data.
use Rattle.std.specs.Prelude.{List, [], ◌∷◌}
use Rattle.liquid_model.specs.Texts.{Text}
use Rattle.liquid_model.specs.Data.{Datum, text, array, object, Items, no_items, item, Pairs}
use Rattle.liquid_model.specs.Data.{no_pairs, pair, put}

abbrev pub list_of : Items → List Datum
list_of no_items = []
list_of (item d ds) = d ∷ list_of ds

-- an object's pairs as two-item lists
abbrev pub pair_lists : Pairs → List Datum
pair_lists no_pairs = []
pair_lists (pair key d rest) = array (item (text key) (item d no_items)) ∷ pair_lists rest

-- the pairs with each of the list put in turn
abbrev pub put_each : List (Text × Datum) → Pairs → Pairs
put_each [] ps = ps
put_each (b ∷ bs) ps = put_each bs (put b.0 b.1 ps)

abbrev pub object_of : List (Text × Datum) → Datum
object_of bs = object (put_each bs no_pairs)

-- Data in which texts of ISO 8601 have the spelling that the language reads.
use Rattle.std.specs.Prelude.{Option, Some, None}
use Rattle.liquid_model.specs.Data.{Datum, nil, truth, number, text, array, object, Items, no_items}
use Rattle.liquid_model.specs.Data.{item, Pairs, no_pairs, pair}
use Rattle.liquid_model.specs.Texts.{Text}
use Rattle.liquid_data.specs.Instants.{date_spelling}

abbrev pub or_own : Text → Option Text → Text
or_own s None = s
or_own s (Some t) = t

-- the spelling of a text that is a day or an instant, and any other text as it is
abbrev pub dated_text : Text → Text
dated_text s = or_own s (date_spelling s)

-- each text in a value so, and all else as it is: names of members too
abbrev mutual
  pub dated_datum : Datum → Datum
  dated_datum nil = nil
  dated_datum (truth b) = truth b
  dated_datum (number z) = number z
  dated_datum (text s) = text (dated_text s)
  dated_datum (array es) = array (dated_items es)
  dated_datum (object ps) = object (dated_pairs ps)

  pub dated_items : Items → Items
  dated_items no_items = no_items
  dated_items (item e es) = item (dated_datum e) (dated_items es)

  pub dated_pairs : Pairs → Pairs
  dated_pairs no_pairs = no_pairs
  dated_pairs (pair k e ps) = pair k (dated_datum e) (dated_pairs ps)

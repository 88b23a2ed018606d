-- What is left of a value where only some of it is asked for.
--     projected u d      d without what u doesn't ask for;   projected_pairs W keep ps      of the
--                        pairs those that W asks for
use Rattle.std.specs.Prelude.{Bool, false, cond, not, ◌&&◌, ◌||◌, Some, codes}
use Rattle.liquid_model.specs.Texts.{Text, same_text}
use Rattle.liquid_model.specs.Data.{Datum, nil, truth, number, text, array, object, Items, no_items}
use Rattle.liquid_model.specs.Data.{item, Pairs, no_pairs, pair}
use Rattle.liquid_model.specs.Uses.{Use, nothing, everything, parts, Fields, no_fields, field}
use Rattle.liquid_model.specs.Uses.{ItemUse, uncounted, up_to, Alike, asks_whether, use_of_each}
use Rattle.liquid_model.specs.Uses.{has_every, join, is_place, items_wanted}

-- what is asked of a member, by all fields of its name
abbrev pub use_of_key : Text → Fields → Use
use_of_key key no_fields = nothing
use_of_key key (field k u more) = cond (same_text k key) (join u (use_of_key key more))
    (use_of_key key more)

-- whether a length is asked for, and whether of a list a length or an item by its place
abbrev pub asks_length : Fields → Bool
asks_length no_fields = false
asks_length (field k u more) = (asks_whether u && same_text k (codes "size")) || asks_length more

abbrev pub asks_of_list : Fields → Bool
asks_of_list no_fields = false
asks_of_list (field k u more) = (asks_whether u && (same_text k (codes "size") || is_place k)) ||
    asks_of_list more

-- a loop over a map goes over lists of a key and a value: what is asked of the value, by a step
-- that doesn't find the key
abbrev pub finds_key : Text → Bool
finds_key key = same_text key (codes "0") || same_text key (codes "first")

abbrev pub of_seconds : Fields → Use
of_seconds no_fields = nothing
of_seconds (field key u more) =
    cond (is_place key && not (finds_key key)) (join u (of_seconds more)) (of_seconds more)

abbrev pub second_wanted : Use → Use
second_wanted nothing = nothing
second_wanted everything = everything
second_wanted (parts members turns) = join (use_of_each turns) (of_seconds members)

abbrev pub values_wanted : ItemUse → Use
values_wanted uncounted = nothing
values_wanted (up_to n u) = second_wanted u

-- what is asked of a map's values, where these are asked of the map
abbrev pub pairs_wanted : Fields → ItemUse → Text → Use
pairs_wanted members turns key = join (use_of_key key members) (values_wanted turns)

abbrev mutual
  -- scalars are kept
  pub projected : Use → Datum → Datum
  projected nothing d = nil
  projected everything d = d
  projected (parts members turns) nil = nil
  projected (parts members turns) (truth b) = truth b
  projected (parts members turns) (number z) = number z
  projected (parts members turns) (text s) = text s
  projected (parts members turns) (array ds) =
      array (projected_items (items_wanted (parts members turns)) (has_every turns ||
      asks_of_list members) ds)
  projected (parts members turns) (object ps) =
      object (projected_pairs (pairs_wanted members turns) (has_every turns || asks_length members)
      ps)

  -- each item, or where nothing is asked of a list none
  pub projected_items : Use → Bool → Items → Items
  projected_items u keep no_items = no_items
  projected_items u keep (item d ds) =
      cond keep (item (projected u d) (projected_items u keep ds)) no_items

  -- the pairs that are asked for, and where their number is too all the others, of which the key
  -- counts alone
  pub projected_pairs : (Text → Use) → Bool → Pairs → Pairs
  projected_pairs W keep no_pairs = no_pairs
  projected_pairs W keep (pair key d ps) = cond (asks_whether (W key) || keep)
      (pair key (projected (W key) d) (projected_pairs W keep ps)) (projected_pairs W keep ps)

-- a value is alike with what is left of it
abbrev pub ProjectedAlike : Type 0
ProjectedAlike = (u : Use) (d : Datum) → Alike u (Some d) (Some (projected u d))

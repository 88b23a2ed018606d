-- Data of which not all was read.
--     Under o p      p is what was read of o: the same, nothing, nil, the beginning of a list, or
--                    a map without some of its members; and so in lists and maps
--     KeysUnder ps qs      it holds under each key
use Rattle.std.specs.Prelude.{List, [], ◌∷◌, Option, Some, None}
use Rattle.liquid_model.specs.Data.{Datum, nil, array, object, Items, Pairs}
use Rattle.liquid_model.specs.Find.{value_at}
use Rattle.liquid_model.specs.Lists.{list_of}
use Rattle.liquid_model.specs.Texts.{Text}

mutual
  pub data Under : Option Datum → Option Datum → Type 0 where
    is_same : {o : Option Datum} → Under o o
    is_missing : {o : Option Datum} → Under o None
    is_unread : {d : Datum} → Under (Some d) (Some nil)
    is_beginning : {cs ds : Items} → ItemsUnder (list_of cs) (list_of ds) →
        Under (Some (array cs)) (Some (array ds))
    has_some_members : {ps qs : Pairs} → ((key : Text) → Under (value_at key ps) (value_at key qs))
        → Under (Some (object ps)) (Some (object qs))

  -- of the first items each, and nothing of the others
  pub data ItemsUnder : List Datum → List Datum → Type 0 where
    are_left : {cs : List Datum} → ItemsUnder cs []
    is_first : {c d : Datum} {cs ds : List Datum} → Under (Some c) (Some d) → ItemsUnder cs ds →
        ItemsUnder (c ∷ cs) (d ∷ ds)

abbrev pub KeysUnder : Pairs → Pairs → Type 0
KeysUnder ps qs = (key : Text) → Under (value_at key ps) (value_at key qs)

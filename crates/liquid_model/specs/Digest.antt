-- What a value feeds a hasher.
use Rattle.std.specs.Prelude.{◌≡◌, ℕ, suc, List, [], ◌++◌, true}
use Rattle.std.specs.Hash as fed
use Rattle.std.proofs.Common.{ap}
use Rattle.liquid_model.specs.Data.{Datum, nil, truth, number, text, array, object, Items, no_items}
use Rattle.liquid_model.specs.Data.{item, Pairs, no_pairs, pair}
use Rattle.liquid_model.specs.Order.{same}
use Rattle.liquid_model.specs.OrderLaws.{same_Decides}

abbrev pub items_len : Items → ℕ
items_len no_items = 0
items_len (item d ds) = suc (items_len ds)

abbrev pub pairs_len : Pairs → ℕ
pairs_len no_pairs = 0
pairs_len (pair k d ms) = suc (pairs_len ms)

abbrev mutual
  pub digest : Datum → List (List ℕ)
  digest nil = fed.u8 0
  digest (truth b) = fed.u8 1 ++ fed.bool b
  digest (number z) = fed.u8 2 ++ fed.i64 z
  digest (text s) = fed.u8 3 ++ fed.str s
  digest (array ds) = fed.u8 4 ++ (fed.usize (items_len ds) ++ items_digest ds)
  digest (object ms) = fed.u8 5 ++ (fed.usize (pairs_len ms) ++ pairs_digest ms)

  pub items_digest : Items → List (List ℕ)
  items_digest no_items = []
  items_digest (item d ds) = digest d ++ items_digest ds

  pub pairs_digest : Pairs → List (List ℕ)
  pairs_digest no_pairs = []
  pairs_digest (pair k d ms) = fed.str k ++ (digest d ++ pairs_digest ms)

pub same_digest : (d e : Datum) → same d e ≡ true → digest d ≡ digest e
same_digest d e h = ap digest ((same_Decides d e).0 h)

use Rattle.std.proofs.Common.{◌≡◌, ℕ, ◌+◌, ◌*◌, ◌≤◌, List, length, Some}
use Rattle.json.specs.Token.{Token}
use Rattle.liquid_model.specs.Data.{Items, Pairs}
use Rattle.liquid_json.specs.inside.Tokens.{list_items_at, pairs_at}
use Rattle.liquid_json.specs.declared.tokens.Numbers.TheVariants.{Integers}
use Rattle.liquid_json.proofs.skip.+skipped.Given as goal

abbrev pub decreases-skipped : goal.decreases-skipped
decreases-skipped l = 2 * l.depth

abbrev pub decreases-skip_items : goal.decreases-skip_items
decreases-skip_items l = 2 * l.depth + 1

abbrev pub decreases-skip_pairs : goal.decreases-skip_pairs
decreases-skip_pairs l = 2 * l.depth + 1

-- whatever items are left, the whole is a list of items
abbrev pub invariant-skip_items-items : goal.invariant-skip_items-items
invariant-skip_items-items l =
    (n : ℕ) × (length l.reader ≤ n)
    × ((ds : Items) (r : List Token) → list_items_at Integers l.depth n l.reader ≡ Some (ds, r) → (all : Items) × (list_items_at Integers l.depth (length l.initial.reader) l.initial.reader ≡ Some (all, r)))
    × (length l.reader ≤ length l.initial.reader)

abbrev pub decreases-skip_items-items : goal.decreases-skip_items-items
decreases-skip_items-items l = length l.reader

-- what is left goes into pairs to which those before it led
abbrev pub invariant-skip_pairs-pairs : goal.invariant-skip_pairs-pairs
invariant-skip_pairs-pairs l =
    (n : ℕ) × (length l.reader ≤ n)
    × ((found : Pairs) → (now : Pairs) × (pairs_at Integers l.depth found (length l.initial.reader) l.initial.reader ≡ pairs_at Integers l.depth now n l.reader))
    × (length l.reader ≤ length l.initial.reader)

abbrev pub decreases-skip_pairs-pairs : goal.decreases-skip_pairs-pairs
decreases-skip_pairs-pairs l = length l.reader

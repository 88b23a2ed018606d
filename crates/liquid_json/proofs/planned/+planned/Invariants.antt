use Rattle.std.proofs.Common.{◌≡◌, ℕ, ◌+◌, ◌-◌, ◌*◌, ◌≤◌, List, length, take, Some}
use Rattle.liquid_model.specs.Digest.{items_len}
use Rattle.json.specs.Token.{Token}
use Rattle.liquid_model.specs.Data.{Items, Pairs, no_pairs}
use Rattle.liquid_model.specs.Lists.{list_of}
use Rattle.liquid_model.specs.View.{pairs_view}
use Rattle.liquid_model.specs.Uses.{uncounted}
use Rattle.liquid_model.specs.Projected.{pairs_wanted}
use Rattle.liquid_model.specs.Skipping.{AlikeKeys}
use Rattle.liquid_model.specs.UseViews.{use_view, members_view}
use Rattle.liquid_json.specs.inside.Tokens.{list_items_at, pairs_at}
use Rattle.liquid_json.specs.declared.tokens.Numbers.TheVariants.{Integers}
use Rattle.liquid_json.specs.Under.{KeysUnder}
use Rattle.liquid_json.proofs.After.{after}
use Rattle.liquid_json.proofs.Under.{BuiltLists, NamedAlone}
use Rattle.liquid_json.proofs.planned.+planned.Given as goal

abbrev pub decreases-read_planned : goal.decreases-read_planned
decreases-read_planned l = 5 * l.depth + 1

abbrev pub decreases-read_parts : goal.decreases-read_parts
decreases-read_parts l = 5 * l.depth

abbrev pub decreases-read_item : goal.decreases-read_item
decreases-read_item l = 5 * l.depth + 2

abbrev pub decreases-planned_items : goal.decreases-planned_items
decreases-planned_items l = 5 * l.depth + 3

abbrev pub decreases-first_items : goal.decreases-first_items
decreases-first_items l = 5 * l.depth + 3

abbrev pub decreases-asked_items : goal.decreases-asked_items
decreases-asked_items l = 5 * l.depth + 4

abbrev pub decreases-planned_pairs : goal.decreases-planned_pairs
decreases-planned_pairs l = 5 * l.depth + 3

-- whatever items are left, and whatever is built of them: with those before, all items and what is built of them
abbrev pub invariant-planned_items-items : goal.invariant-planned_items-items
invariant-planned_items-items l =
    (n : ℕ) × (length l.reader ≤ n)
    × ((cs ds : Items) (r : List Token) → list_items_at Integers l.depth n l.reader ≡ Some (cs, r) → BuiltLists (use_view l.asked) (list_of cs) (list_of ds)
    → (all : Items) × (list_items_at Integers l.depth (length l.initial.reader) l.initial.reader ≡ Some (all, r)) × BuiltLists (use_view l.asked) (list_of all) (list_of (after l.found.items ds)))
    × (length l.reader ≤ length l.initial.reader)

abbrev pub decreases-planned_items-items : goal.decreases-planned_items-items
decreases-planned_items-items l = length l.reader

-- the same of those up to the limit; how many there are altogether is counted
abbrev pub invariant-first_items-items : goal.invariant-first_items-items
invariant-first_items-items l =
    (n : ℕ) × (length l.reader ≤ n)
    × ((cs ds : Items) (r : List Token) → list_items_at Integers l.depth n l.reader ≡ Some (cs, r) → BuiltLists (use_view l.asked) (take (l.limit - length l.found.items) (list_of cs)) (list_of ds)
    → (all : Items) × (list_items_at Integers l.depth (length l.initial.reader) l.initial.reader ≡ Some (all, r)) × BuiltLists (use_view l.asked) (take l.limit (list_of all)) (list_of (after l.found.items ds))
    × (items_len all + l.room ≡ items_len cs + 9223372036854775807))
    × (length l.reader ≤ length l.initial.reader)

abbrev pub decreases-first_items-items : goal.decreases-first_items-items
decreases-first_items-items l = length l.reader

abbrev pub invariant-planned_pairs-pairs : goal.invariant-planned_pairs-pairs
invariant-planned_pairs-pairs l =
    (n : ℕ) × (length l.reader ≤ n)
    × ((now : Pairs) × (pairs_at Integers l.depth no_pairs (length l.initial.reader) l.initial.reader ≡ pairs_at Integers l.depth now n l.reader) × AlikeKeys (pairs_wanted (members_view l.members.entries) uncounted) now (pairs_view l.found.entries) × KeysUnder now (pairs_view l.found.entries) × NamedAlone l.members.entries (pairs_view l.found.entries))
    × (length l.reader ≤ length l.initial.reader)

abbrev pub decreases-planned_pairs-pairs : goal.decreases-planned_pairs-pairs
decreases-planned_pairs-pairs l = length l.reader

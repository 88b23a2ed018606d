use Rattle.std.proofs.Common.{◌≡◌, ℕ, ◌+◌, ◌*◌, ◌≤◌, length}
use Rattle.json.specs.Json.{parse_map}
use Rattle.liquid_model.specs.Data.{no_pairs}
use Rattle.liquid_model.specs.View.{pairs_view}
use Rattle.liquid_json.specs.inside.Tokens.{list_items_at, pairs_at}
use Rattle.liquid_json.proofs.After.{after}
use Rattle.liquid_json.proofs.tokens.+read.Given as goal

abbrev pub decreases-read : goal.decreases-read
decreases-read l = 2 * l.depth

abbrev pub decreases-read_items : goal.decreases-read_items
decreases-read_items l = 2 * l.depth + 1

abbrev pub decreases-read_pairs : goal.decreases-read_pairs
decreases-read_pairs l = 2 * l.depth + 1

-- what is left makes, after what is found, the whole
abbrev pub invariant-read_items-items : goal.invariant-read_items-items
invariant-read_items-items l =
    (n : ℕ) × (length l.reader ≤ n)
    × (list_items_at l.numbers l.depth (length l.initial.reader) l.initial.reader ≡ parse_map (after l.found.items) (list_items_at l.numbers l.depth n l.reader))
    × (length l.reader ≤ length l.initial.reader)

abbrev pub decreases-read_items-items : goal.decreases-read_items-items
decreases-read_items-items l = length l.reader

abbrev pub invariant-read_pairs-pairs : goal.invariant-read_pairs-pairs
invariant-read_pairs-pairs l =
    (n : ℕ) × (length l.reader ≤ n)
    × (pairs_at l.numbers l.depth no_pairs (length l.initial.reader) l.initial.reader ≡ pairs_at l.numbers l.depth (pairs_view l.found.entries) n l.reader)
    × (length l.reader ≤ length l.initial.reader)

abbrev pub decreases-read_pairs-pairs : goal.decreases-read_pairs-pairs
decreases-read_pairs-pairs l = length l.reader

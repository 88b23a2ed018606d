use Rattle.std.proofs.Common.{◌≡◌, ◌+◌, ◌*◌, List, ◌++◌, true}
use Rattle.liquid_model.specs.UseViews.{members_view}
use Rattle.liquid_json.specs.inside.Copies.{each_plain, AskMore}
use Rattle.liquid_json.proofs.PlainCopies.{Entry}
use Rattle.liquid_json.proofs.copies.+plain_use.Given as goal

abbrev pub decreases-plain_uses : goal.decreases-plain_uses
decreases-plain_uses l = 2 * l.depth + 1

abbrev pub decreases-plain_items : goal.decreases-plain_items
decreases-plain_items l = 2 * l.depth + 1

abbrev pub decreases-plain_use : goal.decreases-plain_use
decreases-plain_use l = 2 * l.depth

-- the copies ask for more than the names that are done
abbrev pub invariant-plain_uses-loop-name : goal.invariant-plain_uses-loop-name
invariant-plain_uses-loop-name l =
    (done : List Entry) × (l.uses.entries ≡ done ++ l.name-iterator) × AskMore (members_view l.found.entries) (members_view done) × (each_plain (members_view l.found.entries) ≡ true)

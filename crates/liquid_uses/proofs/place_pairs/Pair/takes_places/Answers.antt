use Rattle.std.proofs.Common.{◌≡◌, true, [], ◌∷◌, string_bytes, sym, rules}
use mathlib.Core.Path.{subst}
use Rattle.liquid_model.specs.UseViews.{members_view, use_view}
use Rattle.liquid_uses.proofs.WholeNames.{Entry}
use Rattle.liquid_uses.proofs.Chains.{Placed, placed_more}
use Rattle.liquid_uses.proofs.place_pairs.Pair.takes_places.Goals as goal

pub loop-key-preserved : goal.loop-key-preserved
loop-key-preserved c = λ h.
    let e : Entry = (c.in-Some.key.now, c.in-Some.asked.now) in
    let rest : c.loop-key.key-iterator ≡ e ∷ c.next.new.self = search rules in
    let passed : c.takes_place.result ≡ true = search rules in
    let passes = rw c.as_str.ensures.value at c.takes_place.ensures in
    c.loop-key.invariant (subst (λ es. Placed c.args.self (members_view es)) (sym rest) (placed_more c.args.self (string_bytes c.in-Some.key.now) (use_view c.in-Some.asked.now) (members_view c.next.new.self) (passes passed) h))

pub returns : goal.returns
returns c = λ h.
    let none : c.loop-key.key-iterator ≡ [] = search rules in
    c.loop-key.invariant (subst (λ es. Placed c.args.self (members_view es)) (sym none) (c.is_open.ensures h))

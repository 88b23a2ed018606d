use Rattle.std.proofs.Common.{◌≡◌, true, []}
use Rattle.liquid_model.specs.Uses.{includes}
use Rattle.liquid_model.specs.UseViews.{uses_view}
use Rattle.liquid_uses.proofs.PartialReads.{AllSeen}
use Rattle.liquid_uses.proofs.kept.keep_all.Given as goal

-- where what is asked of the names that are left is kept, all is
abbrev pub invariant-loop-name : goal.invariant-loop-name
invariant-loop-name l =
    AllSeen (λ q. includes (uses_view l.kept q) (uses_view l.uses q) ≡ true) [] l.name-iterator
    → AllSeen (λ q. includes (uses_view l.kept q) (uses_view l.uses q) ≡ true) [] l.initial.name-iterator

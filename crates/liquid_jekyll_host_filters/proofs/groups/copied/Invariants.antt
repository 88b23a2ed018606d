use Rattle.std.proofs.Common.{◌≡◌, take, map}
use Rattle.liquid_model.specs.View.{view}
use Rattle.liquid_jekyll_host_filters.proofs.groups.copied.Given as goal

abbrev pub invariant-loop-item : goal.invariant-loop-item
invariant-loop-item l = map view l.copies.items ≡ map (λ v. view v.now) (take l.item-index l.items)

use Rattle.std.proofs.Common.{◌≡◌, ◌++◌, map}
use Rattle.liquid_model.specs.Cow.{cow_view}
use Rattle.liquid_model.specs.Lists.{pair_lists}
use Rattle.liquid_model.specs.View.{pairs_view}
use Rattle.liquid_evaluation.proofs.range.pair_lists.Given as goal

-- what was listed and what is left make the whole
abbrev pub invariant-loop-key : goal.invariant-loop-key
invariant-loop-key l = pair_lists (pairs_view l.pairs.entries) ≡ map cow_view l.lists.items ++ pair_lists (pairs_view l.key-iterator)

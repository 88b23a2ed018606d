use Rattle.std.proofs.Common.{◌≡◌, get_or}
use Rattle.liquid_model.specs.Data.{nil}
use Rattle.liquid_model.specs.Lists.{pair_lists}
use Rattle.liquid_model.specs.View.{pairs_view}
use Rattle.liquid_evaluation.proofs.range.pair_at.Given as goal

-- the pair that is looked for stands that far on
abbrev pub invariant-loop-key : goal.invariant-loop-key
invariant-loop-key l = get_or (pair_lists (pairs_view l.pairs.entries)) l.place nil ≡ get_or (pair_lists (pairs_view l.key-iterator)) l.before nil

use Rattle.std.proofs.Common.{◌≡◌, None, drop, option_map}
use Rattle.liquid_warnings.specs.Joins.{joined_before}
use Rattle.liquid_warnings.proofs.joins.joined_before.Given as goal

-- the conjunctions that are left decide, after the one before them, as all of them do
abbrev pub invariant-loop-atoms : goal.invariant-loop-atoms
invariant-loop-atoms l = joined_before None l.conjunctions
    ≡ joined_before (option_map (λ a. a.now) l.before) (drop l.atoms-index l.conjunctions)

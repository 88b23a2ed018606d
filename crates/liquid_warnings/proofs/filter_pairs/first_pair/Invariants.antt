use Rattle.std.proofs.Common.{◌≡◌, None, drop, option_map}
use Rattle.liquid_warnings.specs.FilterPairs.{first_pair}
use Rattle.liquid_warnings.proofs.filter_pairs.first_pair.Given as goal

-- the filters that are left decide, after the one before them, as all of them do
abbrev pub invariant-loop-filter : goal.invariant-loop-filter
invariant-loop-filter l = first_pair None l.filters
    ≡ first_pair (option_map (λ f. f.now) l.before) (drop l.filter-index l.filters)

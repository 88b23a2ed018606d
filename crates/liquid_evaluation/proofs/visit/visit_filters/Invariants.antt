use Rattle.std.proofs.Common.{drop, map}
use Rattle.liquid_evaluation.specs.ChainView.{chain_filter_view}
use Rattle.liquid_evaluation.specs.Names.{filters_names}
use Rattle.liquid_evaluation.proofs.visit.visit_filters.Given as goal

-- what telling the rest does is what telling all of them does
abbrev pub invariant-loop-filter : goal.invariant-loop-filter
invariant-loop-filter g l = (r : _) (w : _) → g.V.NameVisitor.tells l.visitor (filters_names (map chain_filter_view (drop l.filter-index l.filters))) r w → g.V.NameVisitor.tells l.fn.visitor (filters_names (map chain_filter_view l.filters)) r w

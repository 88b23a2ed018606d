-- The chain of the tree that a `FilterChain` stands for.
use Rattle.std.specs.Prelude.{map}
use Rattle.liquid_core.specs.ExpressionView.{expression_view}
use Rattle.liquid_evaluation.specs.StoredFilters.{stored_view}
use Rattle.liquid_evaluation.specs.Tree.{FilterCall, Chain}
use Rattle.liquid_evaluation.specs.declared.chain.ChainFilter.{ChainFilter}
use Rattle.liquid_evaluation.specs.declared.chain.FilterChain.{FilterChain}

abbrev pub chain_filter_view : ChainFilter → FilterCall
chain_filter_view stored = record {
  filter = stored_view stored.filter;
  arguments = map expression_view stored.arguments.items;
  required = stored.required;
}

abbrev pub chain_view : FilterChain → Chain
chain_view chain = record {
  entry = expression_view chain.entry;
  filters = map chain_filter_view chain.filters.items;
}

use Rattle.std.proofs.Common.{◌≡◌, length, arith, rules}
use Rattle.liquid_core.specs.States.{environment_of}
use Rattle.liquid_evaluation.specs.ChainView.{chain_view, chain_filter_view}
use Rattle.liquid_evaluation.proofs.Calls.{none_of, directly_of}
use Rattle.liquid_evaluation.proofs.chain.FilterChain.direct_value.Goals as goal

pub returns-then-is_empty : goal.returns-then-is_empty
returns-then-is_empty c =
    let none : length c.args.self.now.filters.items ≡ 0 = search (rules, arith) in
    directly_of c.direct_value.result (chain_view c.args.self.now) (environment_of c.args.state.now) (none_of chain_filter_view c.args.self.now.filters.items none) c.direct_value.ensures

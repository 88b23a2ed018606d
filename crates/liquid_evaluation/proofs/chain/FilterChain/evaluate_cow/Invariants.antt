use Rattle.std.proofs.Common.{◌≡◌, map, drop}
use Rattle.liquid_model.specs.Cow.{cow_view}
use Rattle.liquid_core.specs.States.{environment_of}
use Rattle.liquid_evaluation.specs.Calls.{applied}
use Rattle.liquid_evaluation.specs.ChainView.{chain_view, chain_filter_view}
use Rattle.liquid_evaluation.specs.Evaluation.{answers_in, answers_with, calls_by, chain_value}
use Rattle.liquid_evaluation.proofs.chain.FilterChain.evaluate_cow.Given as goal

abbrev pub invariant-loop-stored : goal.invariant-loop-stored
invariant-loop-stored g l =
    chain_value (answers_with (g.H.NamedFilters.named l.host)) (chain_view l.self) (environment_of l.state)
    ≡ applied (calls_by (answers_in (environment_of l.state).missing (answers_with (g.H.NamedFilters.named l.host))) (map chain_filter_view (drop l.stored-index l.stored-items))) (cow_view l.value) (environment_of l.state)

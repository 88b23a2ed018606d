use Rattle.liquid_core.specs.States.{environment_of}
use Rattle.liquid_evaluation.specs.Evaluation.{bound_values}
use Rattle.liquid_syntax.specs.Flats.{bindings_view}
use Rattle.liquid_engine.proofs.Bound.{as_scope}
use Rattle.liquid_engine.proofs.partial.pairs_scope.Goals as goal

pub returns : goal.returns
returns c = as_scope c.pairs_object.result (bound_values (bindings_view c.args.bindings.now) (environment_of c.args.state.now)) c.pairs_object.ensures

use Rattle.liquid_core.specs.States.{environment_of}
use Rattle.liquid_evaluation.specs.ConditionView.{condition_view}
use Rattle.liquid_evaluation.specs.Evaluation.{truth_of}
use Rattle.liquid_evaluation.proofs.Calls.{faulted_again}
use Rattle.liquid_engine.proofs.choice.elsif_holds.Goals as goal

pub returns-in-Err : goal.returns-in-Err
returns-in-Err c = faulted_again c.in-Err.fault.kind c.located_elsif.result.kind (truth_of (condition_view c.args.condition.now) (environment_of c.args.state.now)) c.located_elsif.ensures c.in-Err.ensures

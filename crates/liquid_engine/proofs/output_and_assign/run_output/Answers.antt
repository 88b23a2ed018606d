use Rattle.std.proofs.Common.{ℤ, rules}
use Rattle.liquid_model.specs.Data.{number, text_of}
use Rattle.liquid_model.specs.View.{view}
use Rattle.liquid_model.specs.declared.value.Value.{Value}
use Rattle.liquid_core.specs.States.{environment_of}
use Rattle.liquid_evaluation.specs.ChainView.{chain_view}
use Rattle.liquid_evaluation.specs.Evaluation.{answers_with, chain_value}
use Rattle.liquid_meaning.specs.Runs.{write}
use Rattle.liquid_engine.specs.Performs.{unit, configuration_of}
use Rattle.liquid_engine.proofs.Joined.{by_rule, write_met, given_met}
use Rattle.liquid_engine.proofs.Pieces.{writes_as}
use Rattle.liquid_meaning.proofs.Rules.{output_rule}
use Rattle.liquid_engine.proofs.output_and_assign.run_output.Goals as goal

pub returns-in-Held-clause-performs : goal.returns-in-Held-clause-performs
returns-in-Held-clause-performs g c =
    let place = configuration_of g.W.CountedWrite.contents g.W.CountedWrite.failure_count in
    let answers = answers_with (g.H.NamedFilters.named c.args.context.now.host.now) in
    let v = c.in-Held.value.now in
    by_rule (output_rule _ _ _) (given_met {V = Value} view unit v c.push_value.result (chain_value answers (chain_view c.args.chain.now)) (λ x. write (text_of x)) (place c.args.out.now c.args.state.now) (place c.push_value.new.out c.args.state.now)
    (c.in-Held.ensures answers) (write_met c.push_value.result (text_of (view v)) _ _ (environment_of c.args.state.now) c.push_value.ensures.writes))

pub returns-in-Number-clause-performs : goal.returns-in-Number-clause-performs
returns-in-Number-clause-performs g c =
    let place = configuration_of g.W.CountedWrite.contents g.W.CountedWrite.failure_count in
    let answers = answers_with (g.H.NamedFilters.named c.args.context.now.host.now) in
    let n = c.in-Number.n in
    by_rule (output_rule _ _ _) (given_met {V = ℤ} number unit n c.push_number.result (chain_value answers (chain_view c.args.chain.now)) (λ x. write (text_of x)) (place c.args.out.now c.args.state.now) (place c.push_number.new.out c.args.state.now)
    (c.in-Number.ensures answers) (write_met c.push_number.result (text_of (number n)) _ _ (environment_of c.args.state.now) (writes_as c.push_number.result _ (text_of (number n)) _ _ (search rules) c.push_number.ensures.writes)))

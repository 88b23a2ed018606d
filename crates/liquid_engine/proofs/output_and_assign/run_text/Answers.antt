use Rattle.std.proofs.Common.{subst, sym}
use Rattle.std.proofs.lemmas.Result.{err_from_is_err_and}
use Rattle.liquid_core.specs.States.{environment_of}
use Rattle.liquid_engine.specs.Performs.{configuration_of}
use Rattle.liquid_engine.specs.Limits.{Takes}
use Rattle.liquid_engine.specs.inside.Engine.{node_in}
use Rattle.liquid_engine.proofs.Joined.{by_rule, write_met}
use Rattle.liquid_engine.proofs.NodeTurns.{ok_each}
use Rattle.liquid_engine.proofs.Turns.{may_not_begin, performs_from}
use Rattle.liquid_meaning.proofs.Rules.{plain_rule}
use Rattle.liquid_evaluation.specs.Tree as tree
use Rattle.liquid_engine.proofs.Reserves.{less_then}
use Rattle.liquid_engine.proofs.output_and_assign.run_text.Goals as goal

pub returns-in_err-turns-clause-performs : goal.returns-in_err-turns-clause-performs
returns-in_err-turns-clause-performs g c =
    let p = err_from_is_err_and c.from_residual.result c.from_residual.ensures.1 in
    rw (p.1, p.2) (may_not_begin c.in_err-turns.field-0.0 (node_in g.H.NamedFilters.named c.args.context.now (tree.plain c.args.text.now)) _ _ (environment_of c.args.state.now) (environment_of c.args.state.now) c.in_err-turns.ensures.refused)

pub returns-clause-performs : goal.returns-clause-performs
returns-clause-performs g c =
    let place = configuration_of g.W.CountedWrite.contents g.W.CountedWrite.failure_count in
    performs_from c.push_text.result (node_in g.H.NamedFilters.named c.args.context.now (tree.plain c.args.text.now)) _ _ (environment_of c.args.state.now) (place c.push_text.new.self c.args.state.now) c.in_ok-turns.ensures.goes_on
    (by_rule (plain_rule _ _ c.args.text.now) (write_met c.push_text.result _ _ _ _ c.push_text.ensures.writes))

pub returns-clause-takes : goal.returns-clause-takes
returns-clause-takes g c =
    let old = g.W.CountedWrite.left c.args.out.now.writer.now in
    ok_each c.push_text.result c.push_text.ensures.takes (λ h. subst (λ o. Takes 1 old.turns o) (sym h.1) c.in_ok-turns.ensures.takes.0)

pub returns-in_err-turns-clause-bounded : goal.returns-in_err-turns-clause-bounded
returns-in_err-turns-clause-bounded g c = c.turns.ensures.bounded

pub returns-clause-bounded : goal.returns-clause-bounded
returns-clause-bounded g c = less_then c.push_text.ensures.bounded c.turns.ensures.bounded

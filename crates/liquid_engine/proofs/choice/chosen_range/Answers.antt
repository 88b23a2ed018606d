use Rattle.std.proofs.Common.{rules, arith, ◌≤◌, ◌+◌, Ok}
use Rattle.std.proofs.lemmas.Result.{err_from_is_err_and}
use Rattle.liquid_core.specs.States.{environment_of}
use Rattle.liquid_evaluation.specs.ConditionView.{condition_view}
use Rattle.liquid_syntax.specs.Flats.{flats, nodes_of}
use Rattle.liquid_syntax.proofs.Places.{Stands-le}
use Rattle.liquid_engine.proofs.Choices.{comes_itself, takes_body, takes_else, takes_fault}
use Rattle.liquid_engine.proofs.choice.chosen_range.Goals as goal

pub returns-in_err-holds-clause-chosen : goal.returns-in_err-holds-clause-chosen
returns-in_err-holds-clause-chosen c b d here after =
    let p = err_from_is_err_and c.from_residual.result c.from_residual.ensures.1 in
    rw (p.1, p.2) (takes_fault c.args.nodes.now (condition_view c.args.condition.now) (nodes_of b) (nodes_of d) (environment_of c.args.state.now) c.in_err-holds.field-0.0 c.in_err-holds.ensures)

pub overflow_add-result : goal.overflow_add-result
overflow_add-result c =
    let (b, here) = c.requires.body in
    let le : c.args.at + 1 ≤ c.args.bodies.first_end = Stands-le (flats c.args.nodes.now) (c.args.at + 1) b c.args.bodies.first_end here in
    search rules

pub returns-then-branch-clause-inside : goal.returns-then-branch-clause-inside
returns-then-branch-clause-inside c =
    let (b, here) = c.requires.body in
    let (d, after) = c.requires.otherwise in
    let body : c.args.at + 1 ≤ c.args.bodies.first_end = Stands-le (flats c.args.nodes.now) (c.args.at + 1) b c.args.bodies.first_end here in
    let otherwise : c.args.bodies.first_end ≤ c.args.bodies.last_end = Stands-le (flats c.args.nodes.now) c.args.bodies.first_end d c.args.bodies.last_end after in
    (omega arith, omega arith)

pub returns-then-branch-clause-chosen : goal.returns-then-branch-clause-chosen
returns-then-branch-clause-chosen c b d here after =
    takes_body c.args.nodes.now (condition_view c.args.condition.now) (nodes_of b) (nodes_of d) (environment_of c.args.state.now) (Ok (c.args.at + 1, c.args.bodies.first_end)) (search rules)
    (comes_itself c.args.nodes.now (environment_of c.args.state.now) b (c.args.at + 1) c.args.bodies.first_end here)

pub returns-else-branch-clause-inside : goal.returns-else-branch-clause-inside
returns-else-branch-clause-inside c =
    let (b, here) = c.requires.body in
    let le : c.args.at + 1 ≤ c.args.bodies.first_end = Stands-le (flats c.args.nodes.now) (c.args.at + 1) b c.args.bodies.first_end here in
    search rules

pub returns-else-branch-clause-chosen : goal.returns-else-branch-clause-chosen
returns-else-branch-clause-chosen c b d here after =
    takes_else c.args.nodes.now (condition_view c.args.condition.now) (nodes_of b) (nodes_of d) (environment_of c.args.state.now) c.else_range.result (search rules) (c.else_range.ensures.chosen d after)

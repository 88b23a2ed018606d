use Rattle.std.proofs.Common.{rules, ◌+◌, ◌≤◌, sym, subst}
use Rattle.std.proofs.lemmas.Result.{err_from_is_err_and}
use Rattle.liquid_model.specs.Cow.{cow_view}
use Rattle.liquid_core.specs.ExpressionView.{expression_view}
use Rattle.liquid_core.specs.States.{environment_of}
use Rattle.liquid_evaluation.specs.Names.{node_names}
use Rattle.liquid_evaluation.specs.Tree as tree
use Rattle.liquid_engine.specs.inside.Choices.{CaseLeft}
use Rattle.liquid_meaning.specs.Meaning.{node_meaning}
use Rattle.liquid_engine.proofs.CaseChoices.{case_begins, case_le, case_refused}
use Rattle.liquid_engine.proofs.choice.case_range.Goals as goal

pub returns-in_err-wanted-clause-chosen : goal.returns-in_err-wanted-clause-chosen
returns-in_err-wanted-clause-chosen c ws o stands =
    let p = err_from_is_err_and c.from_residual.result c.from_residual.ensures.1 in
    rw (p.1, p.2) (case_refused c.args.nodes.now (environment_of c.args.state.now) (expression_view c.args.target.now) ws o c.in_err-wanted.field-0.0 c.in_err-wanted.ensures.value)

pub overflow_add-at : goal.overflow_add-at
overflow_add-at c =
    let (ws, o, stands) = c.requires in
    let le : c.args.at + 1 ≤ c.args.last = case_le c.args.nodes.now (c.args.at + 1) c.args.arms.now c.args.last ws o stands in
    search rules

pub returns-clause-chosen : goal.returns-clause-chosen
returns-clause-chosen c ws o stands =
    let e = environment_of c.args.state.now in
    let n = tree.case_of (expression_view c.args.target.now) ws o in
    let here = case_begins c.args.nodes.now e (expression_view c.args.target.now) ws o (cow_view c.in_ok-wanted.wanted) c.args.arms.now (c.args.at + 1) c.args.last stands c.in_ok-wanted.ensures.value in
    c.arm_range.ensures.chosen (node_names n) (λ setting deeper. node_meaning setting deeper n)
    (subst (λ d. CaseLeft c.args.nodes.now e (node_names n) (λ setting deeper. node_meaning setting deeper n) d c.args.arms.now (c.args.at + 1) c.args.last) (sym c.as_value.ensures) here)

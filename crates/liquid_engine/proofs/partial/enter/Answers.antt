use Rattle.std.proofs.Common.{refl, ap, ◌∙◌}
use Rattle.std.proofs.lemmas.Result.{err_from_is_err_and}
use Rattle.liquid_core.specs.Held.{held}
use Rattle.liquid_core.specs.LoopFrames.{without_innermost}
use Rattle.liquid_core.specs.States.{loops_of}
use Rattle.liquid_core.proofs.States.{named_off}
use Rattle.liquid_syntax.specs.Templates.{tree_of}
use Rattle.liquid_engine.specs.inside.Partials.{entry_at}
use Rattle.liquid_engine.proofs.PartialRuns.{left_entry, memory_faulted, no_entry}
use Rattle.liquid_engine.proofs.partial.enter.Goals as goal

pub returns-in_err-context-clause-entered : goal.returns-in_err-context-clause-entered
returns-in_err-context-clause-entered g c =
    let p = err_from_is_err_and c.from_residual.result c.from_residual.ensures.1 in
    rw (p.1, p.2) (no_entry c.args.context.now.depth (held c.args.scope) (tree_of c.args.partial.now) c.in_err-context.field-0.0.kind c.in_err-context.ensures.depth, refl)

pub returns-in_err-push_scope-clause-entered : goal.returns-in_err-push_scope-clause-entered
returns-in_err-push_scope-clause-entered g c =
    let p = err_from_is_err_and c.from_residual-in_err-push_scope.result c.from_residual-in_err-push_scope.ensures.1 in
    rw (p.1, p.2) (memory_faulted c.in_err-push_scope.field-0.0.kind (entry_at c.args.context.now.depth (held c.args.scope) (tree_of c.args.partial.now)) c.in_err-push_scope.ensures.pushed, c.in_err-push_scope.ensures.unchanged)

pub returns-clause-entered : goal.returns-clause-entered
returns-clause-entered g c =
    (held c.args.scope, left_entry c.args.context.now.depth c.in_ok-context.context.depth (held c.args.scope) (tree_of c.args.partial.now) c.in_ok-context.ensures.depth, c.in_ok-push_scope.ensures.pushed)

pub returns-clause-within : goal.returns-clause-within
returns-clause-within g c = (c.requires, c.in_ok-context.ensures.depth, c.in_ok-context.ensures.same.0, c.in_ok-context.ensures.same.1)

pub returns-clause-loops : goal.returns-clause-loops
returns-clause-loops g c = ap without_innermost c.in_ok-push_scope.ensures.over ∙ named_off (loops_of c.args.state.now) c.args.scope

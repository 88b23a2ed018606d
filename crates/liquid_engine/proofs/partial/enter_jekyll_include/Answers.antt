use Rattle.std.proofs.Common.{refl, sym, subst}
use Rattle.std.proofs.lemmas.Result.{err_from_is_err_and}
use Rattle.liquid_core.specs.Held.{held}
use Rattle.liquid_core.specs.States.{environment_of, layers_of}
use Rattle.liquid_syntax.specs.Flats.{bindings_view}
use Rattle.liquid_syntax.specs.Templates.{partials_of, tree_of}
use Rattle.liquid_meaning.specs.Meaning.{include_scope}
use Rattle.liquid_engine.specs.inside.Partials.{Enters, partial_of}
use Rattle.liquid_engine.proofs.PartialRuns.{entry_is, unbound, unfound}
use Rattle.liquid_engine.proofs.partial.enter_jekyll_include.Goals as goal

pub returns-in_err-scope-clause-entered : goal.returns-in_err-scope-clause-entered
returns-in_err-scope-clause-entered g c =
    let ps = partials_of c.args.context.now.partials.now in
    let e = environment_of c.args.state.now in
    let depth = c.args.context.now.depth in
    let bs = bindings_view c.args.bindings.now in
    let p = err_from_is_err_and c.from_residual.result c.from_residual.ensures.1 in
    rw (p.1, p.2) (unbound include_scope depth bs e c.in_err-scope.field-0.0.kind (partial_of ps c.args.name.now) c.in_err-scope.ensures, refl)

pub returns-in_err-partial-clause-entered : goal.returns-in_err-partial-clause-entered
returns-in_err-partial-clause-entered g c =
    let ps = partials_of c.args.context.now.partials.now in
    let e = environment_of c.args.state.now in
    let depth = c.args.context.now.depth in
    let bs = bindings_view c.args.bindings.now in
    let p = err_from_is_err_and c.from_residual-in_err-partial.result c.from_residual-in_err-partial.ensures.1 in
    rw (p.1, p.2) (unfound include_scope depth bs e c.in_err-partial.field-0.0.kind (partial_of ps c.args.name.now) (held c.in_ok-scope.scope) c.in_ok-scope.ensures c.in_err-partial.ensures.found, refl)

pub returns-clause-entered : goal.returns-clause-entered
returns-clause-entered g c =
    let ps = partials_of c.args.context.now.partials.now in
    let e = environment_of c.args.state.now in
    let depth = c.args.context.now.depth in
    let bs = bindings_view c.args.bindings.now in
    subst (λ w. Enters (λ r. (tree_of r.partial.now, r.context.depth)) c.enter.result w (layers_of c.args.state.now) (layers_of c.enter.new.state))
    (sym (entry_is include_scope depth bs e (partial_of ps c.args.name.now) (held c.in_ok-scope.scope) (tree_of c.in_ok-partial.partial.now) c.in_ok-scope.ensures c.in_ok-partial.ensures.found)) c.enter.ensures.entered

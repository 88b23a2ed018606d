use Rattle.std.proofs.Common.{◌∙◌, refl, subst, string_bytes, ◌≡◌, Ok}
use Rattle.std.proofs.lemmas.Result.{err_from_is_err_and}
use Rattle.liquid_model.specs.Answer.{Faulted}
use Rattle.liquid_core.specs.ExpressionView.{expression_view}
use Rattle.liquid_core.specs.Held.{held}
use Rattle.liquid_core.specs.States.{environment_of}
use Rattle.liquid_syntax.specs.Flats.{bindings_view}
use Rattle.liquid_syntax.specs.Templates.{partials_of, tree_of}
use Rattle.liquid_meaning.specs.Meaning.{pairs_scope}
use Rattle.liquid_engine.specs.inside.Partials.{partial_of}
use Rattle.liquid_engine.proofs.PartialRuns.{entry_is, named_faulted, named_is, unbound, unentered, unfound, unnamed}
use Rattle.liquid_engine.proofs.partial.enter_include.Goals as goal

pub returns-in_err-called-clause-entered : goal.returns-in_err-called-clause-entered
returns-in_err-called-clause-entered g c =
    let ps = partials_of c.args.context.now.partials.now in
    let e = environment_of c.args.state.now in
    let depth = c.args.context.now.depth in
    let bs = bindings_view c.args.bindings.now in
    let p = err_from_is_err_and c.from_residual.result c.from_residual.ensures.1 in
    rw (p.1, p.2) (unnamed pairs_scope depth bs e (partial_of ps) (expression_view c.args.name.now) c.in_err-called.field-0.0.kind c.in_err-called.ensures, refl)

pub returns-in_err-scope-clause-entered : goal.returns-in_err-scope-clause-entered
returns-in_err-scope-clause-entered g c =
    let ps = partials_of c.args.context.now.partials.now in
    let e = environment_of c.args.state.now in
    let depth = c.args.context.now.depth in
    let bs = bindings_view c.args.bindings.now in
    let name = string_bytes c.in_ok-called.called in
    let p = err_from_is_err_and c.from_residual-in_err-scope.result c.from_residual-in_err-scope.ensures.1 in
    rw (p.1, p.2) (
      named_faulted pairs_scope depth bs e (partial_of ps) (expression_view c.args.name.now) c.in_err-scope.field-0.0.kind name c.in_ok-called.ensures
          (unbound pairs_scope depth bs e c.in_err-scope.field-0.0.kind (partial_of ps name) c.in_err-scope.ensures),
      refl,
    )

pub returns-in_err-partial-clause-entered : goal.returns-in_err-partial-clause-entered
returns-in_err-partial-clause-entered g c =
    let ps = partials_of c.args.context.now.partials.now in
    let e = environment_of c.args.state.now in
    let depth = c.args.context.now.depth in
    let bs = bindings_view c.args.bindings.now in
    let name = string_bytes c.in_ok-called.called in
    let unknown = subst (λ t. Faulted c.in_err-partial.field-0.0.kind (partial_of ps t)) c.as_str.ensures.value c.in_err-partial.ensures.found in
    let p = err_from_is_err_and c.from_residual-in_err-partial.result c.from_residual-in_err-partial.ensures.1 in
    rw (p.1, p.2) (
      named_faulted pairs_scope depth bs e (partial_of ps) (expression_view c.args.name.now) c.in_err-partial.field-0.0.kind name c.in_ok-called.ensures
          (unfound pairs_scope depth bs e c.in_err-partial.field-0.0.kind (partial_of ps name) (held c.in_ok-scope.scope) c.in_ok-scope.ensures unknown),
      refl,
    )

pub returns-in_err-entered-clause-entered : goal.returns-in_err-entered-clause-entered
returns-in_err-entered-clause-entered g c =
    let ps = partials_of c.args.context.now.partials.now in
    let e = environment_of c.args.state.now in
    let depth = c.args.context.now.depth in
    let bs = bindings_view c.args.bindings.now in
    let name = string_bytes c.in_ok-called.called in
    let known = subst (λ t. partial_of ps t ≡ Ok (tree_of c.in_ok-partial.partial.now)) c.as_str.ensures.value c.in_ok-partial.ensures.found in
    let p = err_from_is_err_and c.from_residual-in_err-entered.result c.from_residual-in_err-entered.ensures.1 in
    rw (p.1, p.2) (
      named_faulted pairs_scope depth bs e (partial_of ps) (expression_view c.args.name.now) c.in_err-entered.field-0.0.kind name c.in_ok-called.ensures
          (unentered pairs_scope depth bs e c.in_err-entered.field-0.0.kind (partial_of ps name) (held c.in_ok-scope.scope) (tree_of c.in_ok-partial.partial.now) c.in_ok-scope.ensures known c.in_err-entered.ensures.entered.0),
      c.in_err-entered.ensures.entered.1,
    )

pub returns-clause-entered : goal.returns-clause-entered
returns-clause-entered g c =
    let ps = partials_of c.args.context.now.partials.now in
    let e = environment_of c.args.state.now in
    let depth = c.args.context.now.depth in
    let bs = bindings_view c.args.bindings.now in
    let name = string_bytes c.in_ok-called.called in
    let known = subst (λ t. partial_of ps t ≡ Ok (tree_of c.in_ok-partial.partial.now)) c.as_str.ensures.value c.in_ok-partial.ensures.found in
    let (scope, is, pushed) = c.in_ok-entered.ensures.entered in (
      scope,
      named_is pairs_scope depth bs e (partial_of ps) (expression_view c.args.name.now) name scope (tree_of c.in_ok-entered.entered.partial.now) c.in_ok-entered.entered.context.depth c.in_ok-called.ensures
          (entry_is pairs_scope depth bs e (partial_of ps name) (held c.in_ok-scope.scope) (tree_of c.in_ok-partial.partial.now) c.in_ok-scope.ensures known ∙ is),
      pushed,
    )

use Rattle.std.proofs.Common.{◌≡◌, Ok, sym, ap, subst, ◌∙◌, string_bytes}
use Rattle.std.proofs.lemmas.Result.{err_from_is_err_and}
use Rattle.liquid_model.specs.Answer.{Faulted}
use Rattle.liquid_core.specs.Environment.{own_environment}
use Rattle.liquid_core.specs.ExpressionView.{expression_view}
use Rattle.liquid_core.specs.States.{environment_of}
use Rattle.liquid_syntax.specs.Flats.{bindings_view}
use Rattle.liquid_syntax.specs.Templates.{partials_of, tree_of}
use Rattle.liquid_meaning.specs.Meaning.{pairs_scope}
use Rattle.liquid_engine.specs.inside.Given.{given_map}
use Rattle.liquid_engine.specs.inside.Partials.{render_environment, render_entry, render_partial}
use Rattle.liquid_engine.proofs.PartialRuns.{entry_is, left_entry, made_faulted, made_is, memory_faulted, named_faulted, named_is, no_entry, unbound, unentered, unfound, unnamed}
use Rattle.liquid_engine.proofs.isolated_scope.enter_render.Goals as goal

pub returns-in_err-called-clause-apart : goal.returns-in_err-called-clause-apart
returns-in_err-called-clause-apart g c =
    let ps = partials_of c.args.context.now.partials.now in
    let e = environment_of c.args.state.now in
    let depth = c.args.context.now.depth in
    let bs = bindings_view c.args.bindings.now in
    let p = err_from_is_err_and c.from_residual.result c.from_residual.ensures.1 in
    rw (p.1, p.2) (unnamed (render_environment e.missing) depth bs e (render_partial ps) (expression_view c.args.name.now) c.in_err-called.field-0.0.kind c.in_err-called.ensures)

pub returns-in_err-names-clause-apart : goal.returns-in_err-names-clause-apart
returns-in_err-names-clause-apart g c =
    let ps = partials_of c.args.context.now.partials.now in
    let e = environment_of c.args.state.now in
    let depth = c.args.context.now.depth in
    let bs = bindings_view c.args.bindings.now in
    let name = string_bytes c.in_ok-called.called in
    let p = err_from_is_err_and c.from_residual-in_err-names.result c.from_residual-in_err-names.ensures.1 in
    rw (p.1, p.2) (named_faulted (render_environment e.missing) depth bs e (render_partial ps) (expression_view c.args.name.now) c.in_err-names.field-0.0.kind name c.in_ok-called.ensures
    (unbound (render_environment e.missing) depth bs e c.in_err-names.field-0.0.kind (render_partial ps name) (made_faulted pairs_scope (own_environment e.missing) bs e c.in_err-names.field-0.0.kind c.in_err-names.ensures)))

pub returns-in_err-partial-clause-apart : goal.returns-in_err-partial-clause-apart
returns-in_err-partial-clause-apart g c =
    let ps = partials_of c.args.context.now.partials.now in
    let e = environment_of c.args.state.now in
    let depth = c.args.context.now.depth in
    let bs = bindings_view c.args.bindings.now in
    let name = string_bytes c.in_ok-called.called in
    let bound = made_is pairs_scope (own_environment e.missing) bs e (given_map c.in_ok-names.names) c.in_ok-names.ensures in
    let unknown = subst (λ t. Faulted c.in_err-partial.field-0.0.kind (render_partial ps t)) c.as_str.ensures.value c.in_err-partial.ensures.found in
    let p = err_from_is_err_and c.from_residual-in_err-partial.result c.from_residual-in_err-partial.ensures.1 in
    rw (p.1, p.2) (named_faulted (render_environment e.missing) depth bs e (render_partial ps) (expression_view c.args.name.now) c.in_err-partial.field-0.0.kind name c.in_ok-called.ensures
    (unfound (render_environment e.missing) depth bs e c.in_err-partial.field-0.0.kind (render_partial ps name) ((own_environment e.missing) (given_map c.in_ok-names.names)) bound unknown))

pub returns-in_err-context-clause-apart : goal.returns-in_err-context-clause-apart
returns-in_err-context-clause-apart g c =
    let ps = partials_of c.args.context.now.partials.now in
    let e = environment_of c.args.state.now in
    let depth = c.args.context.now.depth in
    let bs = bindings_view c.args.bindings.now in
    let name = string_bytes c.in_ok-called.called in
    let bound = made_is pairs_scope (own_environment e.missing) bs e (given_map c.in_ok-names.names) c.in_ok-names.ensures in
    let known = subst (λ t. render_partial ps t ≡ Ok (tree_of c.in_ok-partial.partial.now)) c.as_str.ensures.value c.in_ok-partial.ensures.found in
    let p = err_from_is_err_and c.from_residual-in_err-context.result c.from_residual-in_err-context.ensures.1 in
    rw (p.1, p.2) (named_faulted (render_environment e.missing) depth bs e (render_partial ps) (expression_view c.args.name.now) c.in_err-context.field-0.0.kind name c.in_ok-called.ensures
    (unentered (render_environment e.missing) depth bs e c.in_err-context.field-0.0.kind (render_partial ps name) ((own_environment e.missing) (given_map c.in_ok-names.names)) (tree_of c.in_ok-partial.partial.now) bound known (no_entry depth ((own_environment e.missing) (given_map c.in_ok-names.names)) (tree_of c.in_ok-partial.partial.now) c.in_err-context.field-0.0.kind c.in_err-context.ensures.depth)))

pub returns-in_err-own-clause-apart : goal.returns-in_err-own-clause-apart
returns-in_err-own-clause-apart g c =
    let ps = partials_of c.args.context.now.partials.now in
    let e = environment_of c.args.state.now in
    let depth = c.args.context.now.depth in
    let bs = bindings_view c.args.bindings.now in
    let p = err_from_is_err_and c.from_residual-in_err-own.result c.from_residual-in_err-own.ensures.1 in
    rw (p.1, p.2) (memory_faulted c.in_err-own.field-0.0.kind (render_entry ps depth (expression_view c.args.name.now) bs e) c.in_err-own.ensures)

pub returns-clause-apart : goal.returns-clause-apart
returns-clause-apart g c =
    let ps = partials_of c.args.context.now.partials.now in
    let e = environment_of c.args.state.now in
    let depth = c.args.context.now.depth in
    let bs = bindings_view c.args.bindings.now in
    let name = string_bytes c.in_ok-called.called in
    let bound = made_is pairs_scope (own_environment e.missing) bs e (given_map c.in_ok-names.names) c.in_ok-names.ensures in
    let known = subst (λ t. render_partial ps t ≡ Ok (tree_of c.in_ok-partial.partial.now)) c.as_str.ensures.value c.in_ok-partial.ensures.found in
    named_is (render_environment e.missing) depth bs e (render_partial ps) (expression_view c.args.name.now) name ((own_environment e.missing) (given_map c.in_ok-names.names)) (tree_of c.in_ok-partial.partial.now) c.in_ok-context.context.depth c.in_ok-called.ensures
    (entry_is (render_environment e.missing) depth bs e (render_partial ps name) ((own_environment e.missing) (given_map c.in_ok-names.names)) (tree_of c.in_ok-partial.partial.now) bound known ∙ left_entry depth c.in_ok-context.context.depth ((own_environment e.missing) (given_map c.in_ok-names.names)) (tree_of c.in_ok-partial.partial.now) c.in_ok-context.ensures.depth)
    ∙ ap (λ own. Ok (own, (name, ((tree_of c.in_ok-partial.partial.now), c.in_ok-context.context.depth)))) (sym (c.in_ok-own.ensures ∙ ap (λ missing. own_environment missing (given_map c.in_ok-names.names)) c.missing.ensures))

pub returns-clause-within : goal.returns-clause-within
returns-clause-within g c = (c.in_ok-partial.ensures.small, c.in_ok-context.ensures.depth, c.in_ok-context.ensures.same.0, c.in_ok-context.ensures.same.1)

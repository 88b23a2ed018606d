use Rattle.std.proofs.Common.{Ok, sym, ap, ◌∙◌}
use Rattle.std.proofs.lemmas.Result.{err_from_is_err_and}
use Rattle.liquid_core.specs.Environment.{own_environment}
use Rattle.liquid_core.specs.Held.{held}
use Rattle.liquid_core.specs.States.{environment_of}
use Rattle.liquid_syntax.specs.Flats.{bindings_view}
use Rattle.liquid_syntax.specs.Templates.{partials_of, tree_of}
use Rattle.liquid_meaning.specs.Meaning.{pairs_scope}
use Rattle.std.specs.Prelude.{List}
use Rattle.liquid_model.specs.Data.{Datum}
use Rattle.liquid_model.specs.Maps.{Map, merged}
use Rattle.liquid_model.specs.Texts.{Text}
use Rattle.liquid_engine.specs.inside.Partials.{item_entry, item_scope, render_partial}
use Rattle.liquid_engine.proofs.PartialRuns.{entry_is, left_entry, made_faulted, made_is, memory_faulted, no_entry, unbound, unentered, unfound}
use Rattle.liquid_engine.proofs.isolated_scope.enter_render_item.Goals as goal

pub returns-in_err-names-clause-apart : goal.returns-in_err-names-clause-apart
returns-in_err-names-clause-apart g c =
    let ps = partials_of c.args.context.now.partials.now in
    let e = environment_of c.args.state.now in
    let depth = c.args.context.now.depth in
    let bs = bindings_view c.args.bindings.now in
    let more = λ (m : Map Datum). own_environment e.missing (merged (item_scope c.args.item.now) m) in
    let over = λ (pairs : List (Text × Datum)). own_environment e.missing (merged (item_scope c.args.item.now) (pairs_scope pairs)) in
    let name = c.args.name.now in
    let p = err_from_is_err_and c.from_residual.result c.from_residual.ensures.1 in
    rw (p.1, p.2) (unbound over depth bs e c.in_err-names.field-0.0.kind (render_partial ps name) (made_faulted pairs_scope more bs e c.in_err-names.field-0.0.kind c.in_err-names.ensures))

pub returns-in_err-partial-clause-apart : goal.returns-in_err-partial-clause-apart
returns-in_err-partial-clause-apart g c =
    let ps = partials_of c.args.context.now.partials.now in
    let e = environment_of c.args.state.now in
    let depth = c.args.context.now.depth in
    let bs = bindings_view c.args.bindings.now in
    let more = λ (m : Map Datum). own_environment e.missing (merged (item_scope c.args.item.now) m) in
    let over = λ (pairs : List (Text × Datum)). own_environment e.missing (merged (item_scope c.args.item.now) (pairs_scope pairs)) in
    let name = c.args.name.now in
    let bound = made_is pairs_scope more bs e (held c.in_ok-names.names) c.in_ok-names.ensures in
    let unknown = c.in_err-partial.ensures.found in
    let p = err_from_is_err_and c.from_residual-in_err-partial.result c.from_residual-in_err-partial.ensures.1 in
    rw (p.1, p.2) (unfound over depth bs e c.in_err-partial.field-0.0.kind (render_partial ps name) (more (held c.in_ok-names.names)) bound unknown)

pub returns-in_err-context-clause-apart : goal.returns-in_err-context-clause-apart
returns-in_err-context-clause-apart g c =
    let ps = partials_of c.args.context.now.partials.now in
    let e = environment_of c.args.state.now in
    let depth = c.args.context.now.depth in
    let bs = bindings_view c.args.bindings.now in
    let more = λ (m : Map Datum). own_environment e.missing (merged (item_scope c.args.item.now) m) in
    let over = λ (pairs : List (Text × Datum)). own_environment e.missing (merged (item_scope c.args.item.now) (pairs_scope pairs)) in
    let name = c.args.name.now in
    let bound = made_is pairs_scope more bs e (held c.in_ok-names.names) c.in_ok-names.ensures in
    let known = c.in_ok-partial.ensures.found in
    let p = err_from_is_err_and c.from_residual-in_err-context.result c.from_residual-in_err-context.ensures.1 in
    rw (p.1, p.2) (unentered over depth bs e c.in_err-context.field-0.0.kind (render_partial ps name) (more (held c.in_ok-names.names)) (tree_of c.in_ok-partial.partial.now) bound known (no_entry depth (more (held c.in_ok-names.names)) (tree_of c.in_ok-partial.partial.now) c.in_err-context.field-0.0.kind c.in_err-context.ensures.depth))

pub returns-in_err-own-clause-apart : goal.returns-in_err-own-clause-apart
returns-in_err-own-clause-apart g c =
    let ps = partials_of c.args.context.now.partials.now in
    let e = environment_of c.args.state.now in
    let depth = c.args.context.now.depth in
    let bs = bindings_view c.args.bindings.now in
    let more = λ (m : Map Datum). own_environment e.missing (merged (item_scope c.args.item.now) m) in
    let over = λ (pairs : List (Text × Datum)). own_environment e.missing (merged (item_scope c.args.item.now) (pairs_scope pairs)) in
    let p = err_from_is_err_and c.from_residual-in_err-own.result c.from_residual-in_err-own.ensures.1 in
    rw (p.1, p.2) (memory_faulted c.in_err-own.field-0.0.kind (item_entry ps depth c.args.name.now bs (item_scope c.args.item.now) e) c.in_err-own.ensures)

pub returns-clause-apart : goal.returns-clause-apart
returns-clause-apart g c =
    let ps = partials_of c.args.context.now.partials.now in
    let e = environment_of c.args.state.now in
    let depth = c.args.context.now.depth in
    let bs = bindings_view c.args.bindings.now in
    let more = λ (m : Map Datum). own_environment e.missing (merged (item_scope c.args.item.now) m) in
    let over = λ (pairs : List (Text × Datum)). own_environment e.missing (merged (item_scope c.args.item.now) (pairs_scope pairs)) in
    let name = c.args.name.now in
    let bound = made_is pairs_scope more bs e (held c.in_ok-names.names) c.in_ok-names.ensures in
    let known = c.in_ok-partial.ensures.found in
    entry_is over depth bs e (render_partial ps name) (more (held c.in_ok-names.names)) (tree_of c.in_ok-partial.partial.now) bound known ∙ left_entry depth c.in_ok-context.context.depth (more (held c.in_ok-names.names)) (tree_of c.in_ok-partial.partial.now) c.in_ok-context.ensures.depth
    ∙ ap (λ own. Ok (own, ((tree_of c.in_ok-partial.partial.now), c.in_ok-context.context.depth))) (sym (c.in_ok-own.ensures ∙ ap (λ missing. own_environment missing (merged (item_scope c.args.item.now) (held c.in_ok-names.names))) c.missing.ensures))

pub returns-clause-within : goal.returns-clause-within
returns-clause-within g c = (c.in_ok-partial.ensures.small, c.in_ok-context.ensures.depth, c.in_ok-context.ensures.same.0, c.in_ok-context.ensures.same.1)

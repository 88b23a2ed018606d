use Rattle.std.proofs.Common.{◌≡◌, Ok, ap, sym, ◌∙◌, length, codes, arith, rules}
use Rattle.std.proofs.lemmas.Result.{err_from_is_err_and}
use Rattle.liquid_model.specs.Data.{object, put}
use Rattle.liquid_model.specs.View.{pairs_view}
use Rattle.liquid_model.proofs.Views.{view-Object}
use Rattle.liquid_core.specs.Held.{held}
use Rattle.liquid_core.specs.States.{environment_of}
use Rattle.liquid_evaluation.specs.Evaluation.{bound_values}
use Rattle.liquid_syntax.specs.Flats.{binding_view, bindings_view}
use Rattle.liquid_engine.proofs.Bound.{held_one, include_faulted, no_bindings, some_bindings}
use Rattle.liquid_engine.proofs.Renderings.{held_none}
use Rattle.liquid_engine.proofs.partial.include_scope.Goals as goal

pub returns-then-is_empty : goal.returns-then-is_empty
returns-then-is_empty c =
    let none : length c.args.bindings.now ≡ 0 = grind (arith, c.is_empty.ensures, c.if-is_empty.true) in
    no_bindings binding_view c.args.bindings.now (environment_of c.args.state.now) none ∙ ap (λ m. Ok m) (sym (held_none c.new-scope.result c.new-scope.ensures.empty))

pub returns-in_err-pairs : goal.returns-in_err-pairs
returns-in_err-pairs c =
    let p = err_from_is_err_and c.from_residual.result c.from_residual.ensures.1 in
    rw (p.1, p.2) (include_faulted c.in_err-pairs.field-0.0.kind (bound_values (bindings_view c.args.bindings.now) (environment_of c.args.state.now)) c.in_err-pairs.ensures)

pub returns : goal.returns
returns c =
    let some : length c.args.bindings.now ≡ 0 → ⊥ = λ e. grind (arith, e, c.is_empty.ensures, c.if-is_empty.false) in
    let stored : pairs_view c.store.new.object.entries ≡ put (codes "include") (object (pairs_view c.in_ok-pairs.pairs.entries)) (pairs_view c.new-scope.result.entries) = search (rules, view-Object) in
    some_bindings binding_view c.args.bindings.now (environment_of c.args.state.now) (pairs_view c.in_ok-pairs.pairs.entries) (held c.store.new.object) some c.in_ok-pairs.ensures
    (held_one c.new-scope.result c.store.new.object (codes "include") (object (pairs_view c.in_ok-pairs.pairs.entries)) c.new-scope.ensures.empty stored)

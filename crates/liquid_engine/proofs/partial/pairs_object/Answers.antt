use Rattle.std.proofs.Common.{◌≡◌, Ok, ap, sym, ◌∙◌, map, string_bytes, rules}
use Rattle.std.proofs.lemmas.Result.{err_from_is_err_and}
use Rattle.liquid_model.specs.Data.{put}
use Rattle.liquid_model.specs.Fallible.{◌>>=◌}
use Rattle.liquid_model.specs.Lists.{put_each}
use Rattle.liquid_model.specs.View.{view, pairs_view}
use Rattle.liquid_core.specs.States.{environment_of}
use Rattle.liquid_evaluation.specs.Evaluation.{bound_values}
use Rattle.liquid_syntax.specs.Flats.{binding_view}
use Rattle.liquid_engine.proofs.Bound.{pairs_more, pairs_stop, pairs_end}
use Rattle.liquid_engine.proofs.partial.pairs_object.Goals as goal

pub loop-binding-init : goal.loop-binding-init
loop-binding-init c =
    ap (λ es. bound_values (map binding_view c.args.bindings.now) (environment_of c.args.state.now) >>= (λ pairs. Ok (put_each pairs (pairs_view es)))) (sym c.new-object.ensures.empty)

pub returns-in_err-evaluate : goal.returns-in_err-evaluate
returns-in_err-evaluate c =
    let p = err_from_is_err_and c.from_residual.result c.from_residual.ensures.1 in
    rw (p.1, p.2) (pairs_stop binding_view _ (environment_of c.args.state.now) c.args.bindings.now c.loop-binding.binding-index c.binding-item.result (pairs_view c.loop-binding.object.entries) c.in_err-evaluate.field-0.0.kind
    c.loop-binding-test.true c.binding-item.is c.in_err-evaluate.ensures.value c.loop-binding.invariant)

pub loop-binding-preserved : goal.loop-binding-preserved
loop-binding-preserved c =
    let stored : pairs_view c.store.new.object.entries ≡ put (string_bytes c.binding-item.result.name) (view c.in_ok-value.value) (pairs_view c.loop-binding.object.entries) = search rules in
    pairs_more binding_view _ (environment_of c.args.state.now) c.args.bindings.now c.loop-binding.binding-index c.binding-item.result (pairs_view c.loop-binding.object.entries) (pairs_view c.store.new.object.entries) (view c.in_ok-value.value)
    c.loop-binding-test.true c.binding-item.is (c.in_ok-evaluate.ensures.value ∙ ap Ok (sym c.in_ok-value.ensures.value)) stored c.loop-binding.invariant

pub returns : goal.returns
returns c = pairs_end binding_view _ (environment_of c.args.state.now) c.args.bindings.now c.loop-binding.binding-index (pairs_view c.loop-binding.object.entries) c.loop-binding-test.false c.loop-binding.invariant

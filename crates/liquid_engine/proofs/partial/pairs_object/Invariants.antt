use Rattle.std.proofs.Common.{◌≡◌, Ok, map, drop}
use Rattle.liquid_model.specs.Fallible.{◌>>=◌}
use Rattle.liquid_model.specs.Lists.{put_each}
use Rattle.liquid_model.specs.View.{pairs_view}
use Rattle.liquid_core.specs.States.{environment_of}
use Rattle.liquid_evaluation.specs.Evaluation.{bound_values}
use Rattle.liquid_syntax.specs.Flats.{binding_view, bindings_view}
use Rattle.liquid_engine.specs.inside.Partials.{bound_object}
use Rattle.liquid_engine.proofs.partial.pairs_object.Given as goal

abbrev pub invariant-loop-binding : goal.invariant-loop-binding
invariant-loop-binding l =
    bound_object (bindings_view l.bindings) (environment_of l.state)
    ≡ (bound_values (map binding_view (drop l.binding-index l.bindings)) (environment_of l.state) >>= (λ pairs. Ok (put_each pairs (pairs_view l.object.entries))))

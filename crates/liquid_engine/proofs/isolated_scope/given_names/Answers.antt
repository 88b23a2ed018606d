use Rattle.std.proofs.Common.{arith, Ok, ap, sym, ◌∙◌}
use Rattle.liquid_model.specs.Maps.{empty, insert}
use Rattle.liquid_model.specs.View.{view}
use Rattle.liquid_core.specs.Expressions.{nil_if_missing}
use Rattle.liquid_core.specs.States.{environment_of}
use Rattle.liquid_syntax.specs.Flats.{binding_view}
use Rattle.liquid_engine.proofs.Bound.{lone_scope}
use Rattle.liquid_engine.proofs.isolated_scope.given_names.Goals as goal

pub returns-in-Some : goal.returns-in-Some
returns-in-Some c =
    let d = view c.in-Some.value.now in
    lone_scope binding_view (environment_of c.args.state.now) c.args.bindings.now c.binding-item.result d
    (omega arith) (omega arith) c.binding-item.is (ap (nil_if_missing (environment_of c.args.state.now).missing) (sym c.in-Some.ensures))
    ∙ ap (λ name. Ok (insert empty name d)) (sym c.as_str.ensures.value)

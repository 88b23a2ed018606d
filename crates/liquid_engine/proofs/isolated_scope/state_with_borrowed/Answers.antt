use Rattle.std.proofs.Common.{ap, ◌∙◌}
use Rattle.liquid_model.specs.Maps.{empty, insert}
use Rattle.liquid_model.specs.View.{view}
use Rattle.liquid_core.specs.Held.{held}
use Rattle.liquid_core.specs.States.{layers_of, with_scope_pushed}
use Rattle.liquid_engine.proofs.Apart.{state_of_own}
use Rattle.liquid_engine.proofs.Renderings.{held_none}
use Rattle.liquid_engine.proofs.isolated_scope.state_with_borrowed.Goals as goal

pub returns : goal.returns
returns c =
    let names = insert empty c.args.name.now (view c.args.value.now) in
    state_of_own c.args.missing names (held c.new.result) (layers_of c.push_borrowed.new.self) (c.in_default.ensures.pushed ∙ ap (with_scope_pushed names) c.isolated-own.ensures.layers) (held_none c.new.result c.new.ensures.empty)

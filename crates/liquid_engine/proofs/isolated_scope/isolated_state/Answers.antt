use Rattle.std.proofs.Common.{ap, ◌∙◌}
use Rattle.liquid_core.specs.Held.{held}
use Rattle.liquid_core.specs.States.{layers_of, with_scope_pushed}
use Rattle.liquid_engine.proofs.Apart.{state_of_own}
use Rattle.liquid_engine.proofs.Renderings.{held_none}
use Rattle.liquid_engine.proofs.isolated_scope.isolated_state.Goals as goal

pub returns : goal.returns
returns c =
    state_of_own c.args.missing (held c.args.names) (held c.new.result) (layers_of c.push_scope.new.self) (c.in_default.ensures.pushed ∙ ap (with_scope_pushed (held c.args.names)) c.isolated-own.ensures.layers) (held_none c.new.result c.new.ensures.empty)

use Rattle.std.proofs.Common.{◌∙◌}
use Rattle.liquid_core.proofs.States.{plain_beside, none_beside}
use Rattle.liquid_core.proofs.state.State.look_up.Goals as goal

pub returns-clause-plain : goal.returns-clause-plain
returns-clause-plain c = λ plain. c.beside_loops.ensures ∙ plain_beside c.args.self.now c.args.name.now plain

pub returns-clause-beside : goal.returns-clause-beside
returns-clause-beside c = λ none. c.beside_loops.ensures ∙ none_beside c.args.self.now c.args.name.now none

-- Nodes for which a run takes no memory.
use Rattle.std.specs.Prelude.{ℕ, Result, IsOk, ◌⊎◌}
use Rattle.liquid_model.specs.declared.error.Error.{Error}
use Rattle.liquid_evaluation.specs.Tree.{Node, Nodes, no_nodes, node, break_loop, continue_loop}
use Rattle.liquid_evaluation.specs.Tree.{comment}
use Rattle.liquid_engine.specs.Failures.{OneFailed}

-- `break`, `continue` and a comment: they write nothing, and store no value
abbrev pub IsSilent : Node → Type 0
IsSilent break_loop = Unit {0}
IsSilent continue_loop = Unit {0}
IsSilent comment = Unit {0}
IsSilent _ = ⊥

abbrev pub AreSilent : Nodes → Type 0
AreSilent no_nodes = Unit {0}
AreSilent (node n more) = IsSilent n × AreSilent more

-- the run is done, or the writer refused that it goes on
abbrev pub IsDoneOrStopped : Result (Unit {0}) Error → ℕ → ℕ → Type 0
IsDoneOrStopped result old new = IsOk result ⊎ OneFailed old new

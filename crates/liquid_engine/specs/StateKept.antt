-- What every answer leaves as it was.
use Rattle.std.specs.Prelude.{◌≡◌, List}
use Rattle.liquid_model.specs.Texts.{Text}
use Rattle.liquid_core.specs.Environment.{Names}
use Rattle.liquid_core.specs.States.{Layers, layers_of}
use Rattle.liquid_core.specs.declared.state.State.{State}
use Rattle.liquid_evaluation.specs.Names.{partials_names}
use Rattle.liquid_evaluation.specs.Tree.{Node, render, Nodes, no_nodes, node}
use Rattle.liquid_meaning.specs.Isolation.{HoldsOutside}
use Rattle.liquid_meaning.specs.Meaning.{Setting}
use Rattle.liquid_meaning.specs.Within.{Within}

-- the scopes, the data and what becomes of a missing value as they were, and the assigned variables
-- and the counters under each name that is not in N
pub record LayersKept (N : Names) (old new : Layers) : Type 0 where
  pub scopes : new.scopes ≡ old.scopes
  pub globals : new.globals ≡ old.globals
  pub assigned : HoldsOutside N old.assigned new.assigned
  pub counters : HoldsOutside N old.counters new.counters
  pub missing : new.missing ≡ old.missing

-- for every set of names that has these and those of the partials
abbrev pub Keeps : List Text → Setting → State → State → Type 0
Keeps names setting old new = (N : Names) → Within N names →
    Within N (partials_names setting.partials) → LayersKept N (layers_of old) (layers_of new)

-- nodes that leave everything as it was
abbrev pub IsRenderNode : Node → Type 0
IsRenderNode (render x each bindings) = Unit {0}
IsRenderNode _ = ⊥

abbrev pub AreRenderNodes : Nodes → Type 0
AreRenderNodes no_nodes = Unit {0}
AreRenderNodes (node n more) = IsRenderNode n × AreRenderNodes more

use Rattle.std.proofs.Common.{◌≡◌, List, map, drop}
use Rattle.liquid_model.specs.Find.{find}
use Rattle.liquid_model.specs.View.{view}
use Rattle.liquid_core.specs.Held.{Outer}
use Rattle.liquid_core.specs.declared.frame.Scope.{Scope}
use Rattle.liquid_core.specs.Resolved.{resolved_view, IsAmong}
use Rattle.liquid_core.proofs.state.lookup.along.Given as goal

-- the steps that are left lead on to what all of them lead to
abbrev pub invariant-loop-part : goal.invariant-loop-part
invariant-loop-part l = (find (resolved_view l.resolved) (map view (drop l.part-index l.steps)) ≡ find (resolved_view l.initial.resolved) (map view l.steps)) × ((scopes : List Scope) (outer : List Outer) → IsAmong scopes outer l.initial.resolved → IsAmong scopes outer l.resolved)

-- The datum of what a name or a path has led to.
use Rattle.std.specs.Prelude.{◌≡◌, ◌++◌, ◌∷◌, ⊤, ℕ, ◌+◌, length, List, map, reverse}
use Rattle.liquid_model.specs.Data.{Datum}
use Rattle.liquid_model.specs.Found.{found_view}
use Rattle.liquid_model.specs.Maps.{Map}
use Rattle.liquid_core.specs.Environment.{local_of}
use Rattle.liquid_core.specs.Held.{Outer, held}
use Rattle.liquid_core.specs.LoopFrames.{scope_maps, frame_object}
use Rattle.liquid_core.specs.declared.frame.Scope.{Scope}
use Rattle.liquid_core.specs.declared.frame.Scope.TheVariants.{LoopFrame}
use Rattle.liquid_core.specs.declared.resolved.Scopes.{Scopes}
use Rattle.liquid_core.specs.declared.resolved.Resolved.{Resolved}
use Rattle.liquid_core.specs.declared.resolved.Resolved.TheVariants.{Borrowed, Local, Loop}

-- the scopes of borrowed names, the innermost first
abbrev pub scopes_view : Scopes → List (Map Datum)
scopes_view scopes = scope_maps scopes.frames.now (reverse (map held scopes.outer.now))

abbrev pub resolved_view : Resolved → Datum
resolved_view (Borrowed f) = found_view f
resolved_view (Local f) = found_view f
resolved_view (Loop frame enclosing) = frame_object frame.now (local_of (scopes_view enclosing))

-- a value holds it, or it is a number, a truth value or nil
abbrev pub IsHeld : Resolved → Type 0
IsHeld (Loop frame enclosing) = ⊥
IsHeld _ = ⊤

-- where it is a loop's object, the loop is one of these scopes, over those below it and over outer
abbrev pub IsAmong : List Scope → List Outer → Resolved → Type 0
IsAmong scopes outer (Loop frame enclosing) = (above : List Scope) ×
    ((scopes ≡ enclosing.frames.now ++ LoopFrame frame.now ∷ above) × (enclosing.outer.now ≡ outer))
IsAmong scopes outer _ = ⊤

-- how many loops, and scopes over one, a loop's object can lead back through
abbrev pub depth : Resolved → ℕ
depth (Loop frame enclosing) = length enclosing.frames.now + 1
depth _ = 0

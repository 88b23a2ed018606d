-- A state, as its list of scopes beside the rest of an environment.
use Rattle.std.specs.Prelude.{◌≡◌, ◌++◌, ℕ, List, [], ◌∷◌, map, reverse, Option, Some, string_bytes}
use Rattle.std.specs.Option.{option_map}
use Rattle.std.specs.BTreeMap.{get_by_text}
use Rattle.liquid_model.specs.Texts.{Text, ◌else◌}
use Rattle.liquid_model.specs.Data.{Datum}
use Rattle.liquid_model.specs.Maps.{Map, empty, insert}
use Rattle.liquid_core.specs.Environment.{Environment, Registers, new_registers, local_of}
use Rattle.liquid_core.specs.Held.{held}
use Rattle.liquid_core.specs.LoopFrames.{scope_maps, frame_map_at, frame_object}
use Rattle.liquid_core.specs.declared.frame.Scope.{Scope}
use Rattle.liquid_core.specs.declared.frame.Scope.TheVariants as variants
use Rattle.liquid_core.specs.declared.frame.LoopFrame.{LoopFrame}
use Rattle.liquid_core.specs.declared.state.State.{State}
use Rattle.liquid_core.specs.declared.state.Parts.{Parts}
use Rattle.liquid_core.specs.declared.state.Data.{Data}
use Rattle.liquid_core.specs.declared.state.Data.TheVariants.{Own, Borrowed}
use Rattle.liquid_core.specs.declared.interrupt.Interrupt.{Interrupt}
use Rattle.liquid_core.specs.declared.missing_value.Missing.{Missing}
use Rattle.liquid_core.specs.declared.missing_value.Missing.TheVariants.{IsFault}

abbrev pub data_held : Data → Map Datum
data_held (Own object) = held object
data_held (Borrowed object) = held object.now

pub record Layers : Type 0 where
  -- the innermost first
  pub scopes : List (Map Datum)
  pub assigned : Map Datum
  pub counters : Map Datum
  -- the data of the run
  pub globals : Map Datum
  pub registers : Registers
  -- what becomes of a missing value
  pub missing : Missing

unfoldable pub layers_of : State → Layers
layers_of s = record {
  scopes = scope_maps s.frames.items (reverse (map held s.scopes.items));
  assigned = held s.assigned;
  counters = held s.counters;
  globals = data_held s.data;
  registers = record {
    interrupt = s.interrupt;
    cycles = (λ group. get_by_text s.cycles group);
    changed = option_map string_bytes s.changed;
  };
  missing = s.missing;
}

-- the scopes as one map
abbrev pub merged_layers : Layers → Environment
merged_layers l = record {
  local = local_of l.scopes;
  assigned = l.assigned;
  counters = l.counters;
  globals = l.globals;
  registers = l.registers;
  missing = l.missing;
}

abbrev pub environment_of : State → Environment
environment_of s = merged_layers (layers_of s)

-- a new state over this data
abbrev pub new_layers : Map Datum → Layers
new_layers globals = record {
  scopes = [];
  assigned = empty;
  counters = empty;
  globals = globals;
  registers = new_registers;
  missing = IsFault;
}

-- a state in which a missing value is this
abbrev pub with_missing : Missing → Layers → Layers
with_missing missing l = record l { missing = missing }

-- ---- changes

abbrev pub with_scope_pushed : Map Datum → Layers → Layers
with_scope_pushed scope l = record l { scopes = scope ∷ l.scopes }

abbrev pub enclosing_scopes : List (Map Datum) → List (Map Datum)
enclosing_scopes [] = []
enclosing_scopes (scope ∷ scopes) = scopes

abbrev pub with_scope_popped : Layers → Layers
with_scope_popped l = record l { scopes = enclosing_scopes l.scopes }

abbrev pub with_assigned : Text → Datum → Layers → Layers
with_assigned name d l = record l { assigned = insert l.assigned name d }

abbrev pub with_counter : Text → Datum → Layers → Layers
with_counter name d l = record l { counters = insert l.counters name d }

abbrev pub with_interrupt : Option Interrupt → Layers → Layers
with_interrupt i l = record l { registers = record (l.registers) { interrupt = i } }

abbrev pub with_changed : Option Text → Layers → Layers
with_changed shown l = record l { registers = record (l.registers) { changed = shown } }

abbrev pub with_cycle : Text → ℕ → Layers → Layers
with_cycle group index l =
    record l { registers = record (l.registers) { cycles = insert l.registers.cycles group index } }

-- the innermost loop at its item k
abbrev pub with_frame_at : LoopFrame → ℕ → Layers → Layers
with_frame_at t k l = with_scope_pushed (frame_map_at t k (local_of (enclosing_scopes l.scopes)))
    (with_scope_popped l)

-- ---- loops

-- the running loops, and the scopes inside them; the innermost last
abbrev pub loops_of : State → List Scope
loops_of s = s.frames.items

-- no loop is among the scopes
abbrev pub IsPlain : State → Type 0
IsPlain s = loops_of s ≡ []

-- what was found is the whole object of a loop that is under way
pub record FindsLoop (s : State) (found : Option Datum) : Type 0 where
  pub loop : LoopFrame
  -- the loops and scopes that it stands over, and those that stand over it
  pub below : List Scope
  pub above : List Scope
  pub among : loops_of s ≡ below ++ variants.LoopFrame loop ∷ above
  pub whole : found ≡
      Some (frame_object loop (local_of (scope_maps below (reverse (map held s.scopes.items)))))

-- the value that a name has below the running loops and the scopes inside them
abbrev pub value_below_loops : State → Text → Option Datum
value_below_loops s name =
    let e = environment_of s in
    ((local_of (reverse (map held s.scopes.items)) name else e.assigned name) else e.counters name)
    else e.globals name

-- ---- parts

-- the layers of what a state holds beside its data, over this data
abbrev pub layers_with : Parts → Map Datum → Layers
layers_with p globals = record {
  scopes = reverse (map held p.scopes.items);
  assigned = held p.assigned;
  counters = held p.counters;
  globals = globals;
  registers = record {
    interrupt = p.interrupt;
    cycles = (λ group. get_by_text p.cycles group);
    changed = option_map string_bytes p.changed;
  };
  missing = p.missing;
}
